pub mod ModeSteps
pub mod Reworded
pub mod SettingsParted
pub mod BanRoom
