-- What the code's own loops are at: no rule stands here.
pub mod JoinList
pub mod KickList
pub mod PartList
pub mod KeptChanges
pub mod Judged
pub mod Denied
pub mod Served
