pub mod Signs
pub mod Claims
pub mod Pace
pub mod Lines
pub mod Rereadings
pub mod Saying
pub mod Laws
