pub mod Answers
pub mod Calling
pub mod Listening
