-- The lines by which a new link begins, read as they are written: PASS and SERVER of the two ends,
-- and a SERVER of each server that one of them knows.
pub mod Greetings
pub mod PassLines
pub mod ServerLines
