pub mod Calls
pub mod Outboxes
pub mod Memory
pub mod Ample
pub mod Steps
pub mod Serving
pub mod Loops
