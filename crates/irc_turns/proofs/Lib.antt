pub mod FirstReported
pub mod FrontSteps
pub mod FrontsBegun
pub mod LettingGo
pub mod LinesCounted
pub mod PaceKept
pub mod QueueMarks
