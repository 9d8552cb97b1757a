-- A line is delivered: the oldest on its way is the next that its reader takes, it goes well, and
-- the network stays sound; so each turn leaves fewer.
pub mod FirstOnWay
pub mod Unheard
pub mod Delivering
pub mod TurnsAreFew
