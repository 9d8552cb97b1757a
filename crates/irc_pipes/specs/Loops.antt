-- Words of this crate's code alone. No rule stands here.
pub mod Parts
pub mod Rows
