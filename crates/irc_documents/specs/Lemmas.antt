pub mod OneBehindAnother
pub mod CrossingLists
pub mod LinksInFlight
pub mod NetworksRun
pub mod FactsStay
