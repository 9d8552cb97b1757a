pub mod Texts
pub mod Channels
pub mod ChannelTable
pub mod ModeLaws
pub mod Loops
