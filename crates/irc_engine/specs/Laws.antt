pub mod Turns
pub mod Tellings
