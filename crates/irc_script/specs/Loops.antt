pub mod Reading
pub mod Steps
pub mod Configs
pub mod Commands
