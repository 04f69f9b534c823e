pub mod Searched
pub mod Joined
