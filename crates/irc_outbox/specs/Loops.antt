pub mod Passing
pub mod Planning
