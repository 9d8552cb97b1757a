pub mod ModeLimits
pub mod WrittenLetters
pub mod ManyChanges
