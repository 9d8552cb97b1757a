pub mod Sparse
pub mod Comers
pub mod Leavers
pub mod Goers
pub mod OurUpdates
pub mod BehindUpdates
pub mod BehindRenames
pub mod CrossedStands
