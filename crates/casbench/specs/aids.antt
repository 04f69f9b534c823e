pub mod Checking
pub mod Source
