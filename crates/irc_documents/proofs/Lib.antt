pub mod ComputedRuns
