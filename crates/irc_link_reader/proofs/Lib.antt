pub mod FarMembers
pub mod RowsTold
pub mod ChangesTold
pub mod EffectsMeant
pub mod Newcomers
