pub mod Reading
pub mod Waiting
pub mod Laws
pub mod Examples
