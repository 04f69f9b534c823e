pub mod Covers
pub mod Answered
pub mod aids
