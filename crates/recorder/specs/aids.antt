pub mod Notes
pub mod Appending
pub mod Merging
pub mod Drawing
