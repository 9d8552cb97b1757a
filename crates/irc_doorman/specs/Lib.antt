pub mod Doormen
pub mod Examples
pub mod Guests
pub mod Passwords
pub mod Texts
