-- What holds of the steps of these commands: laws, with their proofs. No rule stands here.
pub mod Lawful
pub mod JoinWalk
pub mod JoinZero
pub mod JoinLaw
pub mod PartLaw
pub mod KickLaw
pub mod InviteLaw
pub mod LimitsWritten
pub mod MasksByFold
pub mod BansFound
pub mod JudgedWalk
pub mod ModeWalk
pub mod WordsCarried
pub mod InvitationsLaw
pub mod ModeLaw
pub mod ChangesLaw
pub mod AwayLaw
