pub mod Configuration
pub mod Fixed
pub mod Keys
pub mod Loops
