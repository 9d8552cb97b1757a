pub mod Standing
pub mod Laws
pub mod Lemmas
pub mod Examples
