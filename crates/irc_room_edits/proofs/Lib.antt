pub mod ComputedEdits
pub mod ComputedExamples
