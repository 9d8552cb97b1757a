pub mod AsTheyAre
-- Words of this crate's code alone. No rule stands here.
pub mod Places
pub mod Parts
