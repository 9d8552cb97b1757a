pub mod CommandsNamed
pub mod UserChangesRead
