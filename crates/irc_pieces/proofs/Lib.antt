pub mod ComingWhole
pub mod CountsRead
