pub mod UserTable
pub mod Rosters
pub mod Lemmas
pub mod ChangesTold
