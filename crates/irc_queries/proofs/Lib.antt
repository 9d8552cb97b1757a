pub mod FoundRows
pub mod NamedCount
pub mod ServersTold
