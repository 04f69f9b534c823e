pub mod Faults
pub mod Operations
pub mod Copies
pub mod Requests
pub mod Group
pub mod Honest
pub mod Polling
pub mod aids
