pub mod Schedules
pub mod Disturbed
