pub mod Fronts
pub mod FrontLaws
pub mod Walks
