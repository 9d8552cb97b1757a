pub mod Batches
pub mod Growing
pub mod Loops
