-- Lemmas, with their proofs, that the crates above cite too. No rule stands here.
pub mod HomesPassing
pub mod HomesAdded
pub mod MergedClients
