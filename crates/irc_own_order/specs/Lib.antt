pub mod Doings
pub mod OwnOrder
pub mod Laws
pub mod Lemmas
