pub mod LineViews
pub mod Telling
pub mod Viewing
pub mod InTurn
pub mod Naming
pub mod HomeCount
