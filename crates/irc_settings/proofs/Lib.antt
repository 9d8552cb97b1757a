pub mod KeysLost
pub mod KeysOfTables
pub mod Paces
pub mod ValuesOfArrays
