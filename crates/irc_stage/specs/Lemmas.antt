pub mod Listed
-- Lemmas, with their proofs, that the crates above cite too. No rule stands here.
pub mod Alone
pub mod MatchedEvents
pub mod Counting
pub mod Matching
pub mod Numbers
pub mod Outcomes
pub mod SpokenSteps
pub mod Steps
pub mod Twins
