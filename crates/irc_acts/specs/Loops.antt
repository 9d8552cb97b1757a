pub mod FilledLines
pub mod NameLines
pub mod Moving
