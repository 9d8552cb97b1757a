pub mod Reader
pub mod Means
pub mod Told
pub mod Loops
pub mod Lemmas
