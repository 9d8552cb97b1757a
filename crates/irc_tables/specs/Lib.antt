pub mod FoldedRows
pub mod RowViews
pub mod ShortNames
pub mod TableChanges
pub mod Loops
pub mod Lemmas
