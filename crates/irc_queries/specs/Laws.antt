-- What holds of the steps of these commands: laws, with their proofs. No rule stands here.
pub mod OnlyAsks
pub mod NamesAsks
pub mod IsonLaw
pub mod UserhostLaw
pub mod LusersLaw
pub mod ListLaw
pub mod WhoisLaw
pub mod WhoLaw
pub mod QueryLaw
