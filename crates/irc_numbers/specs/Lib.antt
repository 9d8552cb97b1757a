pub mod Alike
pub mod EndsLast
pub mod InUse
pub mod Meaning
pub mod ServedAlike
