-- Lemmas that crates above cite.
pub mod HearingLaws
pub mod CarryingLaws
pub mod NewServers
pub mod Layers
pub mod Stills
