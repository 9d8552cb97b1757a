pub mod Comers
pub mod Hearings
pub mod LettersLeft
pub mod Standings
pub mod Texts
