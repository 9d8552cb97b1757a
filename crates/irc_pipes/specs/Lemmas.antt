-- Lemmas that crates above cite.
pub mod StillPipes
pub mod PutPipes
