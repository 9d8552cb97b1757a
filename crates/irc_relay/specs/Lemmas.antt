-- Lemmas, with their proofs, that the crates above cite too. No rule stands here.
pub mod TellingNames
pub mod AddedLines
pub mod LinesCounted
pub mod Deliveries
pub mod StreamsFlow
pub mod NextHops
pub mod LineFactsKept
pub mod JoiningParts
pub mod ReturnedLines
pub mod DeliveryRuns
pub mod ShortWays
pub mod LinkTakenOut
pub mod ActsToldOn
