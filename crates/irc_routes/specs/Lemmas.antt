-- Lemmas, with their proofs, that the crates above cite too. No rule stands here.
pub mod TableRows
pub mod DistinctLinks
pub mod KeptRows
pub mod NumberedRows
pub mod RouteLaws
pub mod SmallestFree
