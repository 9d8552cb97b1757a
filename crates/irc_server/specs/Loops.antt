pub mod Hearing
pub mod Telling
pub mod Serving
pub mod Acting
pub mod Settings
pub mod States
