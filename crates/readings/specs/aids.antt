pub mod Judging
pub mod Peaks
pub mod Records
pub mod Calls
pub mod Unexplained
