pub mod Networks
pub mod Steps
pub mod Rest
pub mod Laws
pub mod Examples
