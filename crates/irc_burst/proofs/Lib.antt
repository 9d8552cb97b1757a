pub mod EffectsRead
pub mod GoingOn
pub mod ServerRows
pub mod MemberWords
pub mod MembersInTurn
pub mod OutOfPlace
