pub mod Settling
pub mod Taking
