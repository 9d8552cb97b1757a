-- Lemmas, with their proofs, that the crates above cite too. No rule stands here.
pub mod Emptied
pub mod FoundAtPlaces
pub mod NewFramer
pub mod Outcomes
pub mod Rows
pub mod RowsWritten
pub mod NodesStay
pub mod Ways
