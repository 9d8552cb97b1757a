-- Words of the loops of this crate alone. No rule stands here.
pub mod Telling
