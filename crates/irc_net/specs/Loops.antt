-- Words of this crate's code alone. No rule stands here.
pub mod Codes
pub mod Coming
pub mod Answering
pub mod Ordering
pub mod Settling
