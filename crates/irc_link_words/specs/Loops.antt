pub mod Readings
pub mod Changes
pub mod Rows
