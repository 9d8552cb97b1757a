mod ClosedLines
mod MotdFound
mod SettingUp
mod Ready
mod ReadAgain
mod TurnsTaken
