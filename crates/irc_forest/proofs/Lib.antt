mod LeftChannels
pub mod Parting
