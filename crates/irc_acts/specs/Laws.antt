-- What holds of the steps of these commands: laws, with their proofs. No rule stands here.
pub mod NamesLaw
