pub mod Capabilities
pub mod Doors
pub mod Examples
pub mod Letters
pub mod Manners
pub mod MessagesOfTheDay
pub mod Supported
pub mod Turning
