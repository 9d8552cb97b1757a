pub mod FoundByNumber
pub mod FullTold
pub mod ServersCounted
pub mod TiedTables
pub mod ToldInOrder
pub mod TokensTold
