pub mod Written
pub mod Loops
pub mod Lemmas
