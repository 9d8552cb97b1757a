-- Lemmas, with their proofs, that the crates above cite too. No rule stands here.
pub mod ChangedRows
pub mod OrderedEntries
pub mod OrderedMaps
pub mod RowsAsTable
pub mod SearchedRows
