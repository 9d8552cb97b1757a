pub mod ComputedExamples
