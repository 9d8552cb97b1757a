pub mod Counting
pub mod Ends
pub mod Laws
pub mod Pieces
pub mod Tallies
