pub mod Forests
pub mod Loops
pub mod Lemmas
