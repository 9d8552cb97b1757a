pub mod Examples
pub mod Holds
pub mod Lines
