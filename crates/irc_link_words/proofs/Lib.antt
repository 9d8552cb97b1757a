pub mod OwnName
pub mod WholeLines
pub mod NumberFacts
pub mod TextsRead
pub mod KeptWords
pub mod WordsTaken
pub mod NamedRows
pub mod AwayRead
