pub mod LengthsApart
pub mod MaskSteps
pub mod DigitSteps
