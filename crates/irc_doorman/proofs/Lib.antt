pub mod Asked
pub mod Asking
pub mod Examples
pub mod Passing
pub mod Plainly
pub mod Told
pub mod Watching
