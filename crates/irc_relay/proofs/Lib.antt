pub mod TurningLinks
pub mod Walking
pub mod FollowingNews
pub mod AnnouncingNews
pub mod Queueing
pub mod RelayingNews
pub mod DeliveringNews
pub mod SettlingNews
