pub mod ChangesFit
pub mod EndsAndStarts
pub mod ExamplesProved
pub mod NameWords
pub mod QuitLaw
pub mod SeenAlone
pub mod ShownWhole
