pub mod ReadBack
pub mod Introductions
pub mod ModesTaken
pub mod WholeLines
pub mod EachReadBack
pub mod OtherInvitations
pub mod Lemmas
