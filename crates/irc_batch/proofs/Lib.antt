pub mod KeptLines
pub mod Following
