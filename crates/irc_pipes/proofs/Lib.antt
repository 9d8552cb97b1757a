pub mod Texts
pub mod Coming
pub mod Taking
pub mod Rows
pub mod LeanRows
pub mod Places
