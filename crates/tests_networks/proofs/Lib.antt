pub mod OfRuns
