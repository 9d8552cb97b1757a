pub mod JoinersPlace
pub mod EntriesFromTheFront
pub mod CountedRows
pub mod MovesAhead
