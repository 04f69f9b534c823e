pub mod Messages
pub mod Collected
pub mod Slots
