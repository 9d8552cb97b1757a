pub mod FollowingWaits
pub mod FindingReaders
pub mod ComputedWaits
