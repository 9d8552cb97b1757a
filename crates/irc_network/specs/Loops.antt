-- Words of this crate's code alone. No rule stands here.
pub mod Codes
pub mod Coming
pub mod Progress
pub mod Keeping
pub mod HistoryEntry
pub mod Parties
pub mod NodeCodes
pub mod Nodes
pub mod Turning
pub mod Writing
