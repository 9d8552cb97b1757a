pub mod LinkEnds
pub mod Offers
