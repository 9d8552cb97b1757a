pub mod DeedLines
pub mod BurstLines
pub mod Loops
pub mod Examples
pub mod WholeLines
pub mod Lemmas
