pub mod EditsMayBeMade
pub mod ComputedRooms
