-- Lemmas, with their proofs, that the crates above cite too. No rule stands here.
pub mod CarriedParts
pub mod ChangeRead
pub mod IntroductionRead
pub mod LinesReadBack
pub mod ModeWords
pub mod ModesRead
pub mod NameKinds
pub mod NumberText
pub mod StoredNames
