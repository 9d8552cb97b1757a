-- Lemmas, with their proofs, that the crate above cites too. No rule stands here.
pub mod Printed
pub mod Sinking
