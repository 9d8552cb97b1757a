pub mod Loops
pub mod ClosedDoors
pub mod Endings
pub mod Serving
