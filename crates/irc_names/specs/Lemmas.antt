-- Lemmas, with their proofs, that the crates above cite too. No rule stands here.
pub mod FoldsByRanges
pub mod CleanNames
pub mod RuleFacts
pub mod PlainFacts
