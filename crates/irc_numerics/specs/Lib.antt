pub mod Limits
pub mod Laws
pub mod Loops
pub mod Blanks
pub mod Replies
pub mod Lemmas
