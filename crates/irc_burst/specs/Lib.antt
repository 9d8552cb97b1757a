pub mod DeedsMeant
pub mod GoingOn
pub mod HandshakeMeant
pub mod Loops
