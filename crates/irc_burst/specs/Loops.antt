-- Words of this crate's code alone. No rule stands here.
pub mod Deeds
pub mod Commands
pub mod Handshakes
