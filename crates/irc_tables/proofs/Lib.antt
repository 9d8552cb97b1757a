pub mod NameRows
pub mod ShortRows
pub mod TriedRows
