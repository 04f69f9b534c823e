pub mod Earlier
pub mod Reports
pub mod Counting
