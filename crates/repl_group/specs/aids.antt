pub mod Tracking
pub mod Following
pub mod Forming
pub mod Holding
pub mod Keeping
pub mod Logging
pub mod Sound
