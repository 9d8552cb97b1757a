pub mod Examples
pub mod Handling
pub mod Others
pub mod Standing
