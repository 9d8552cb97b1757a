pub mod Tables
pub mod Counts
pub mod Connections
pub mod Moments
pub mod Flushing
pub mod Turns
