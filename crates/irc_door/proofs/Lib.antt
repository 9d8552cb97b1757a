pub mod CutTexts
pub mod Cutting
pub mod Due
pub mod Examples
pub mod Handled
pub mod Places
pub mod Plainly
pub mod Said
