-- Lemmas, with their proofs.
pub mod ToClients
pub mod InTurn
pub mod LinksDo
pub mod ClientsDo
pub mod OverAll
pub mod Histories
