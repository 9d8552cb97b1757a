pub mod EffectsRead
pub mod MeaningsBack
pub mod WholeLines
pub mod EachBack
pub mod LinesAlike
