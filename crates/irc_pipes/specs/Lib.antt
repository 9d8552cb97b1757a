pub mod Pipes
pub mod Loops
pub mod Lemmas
