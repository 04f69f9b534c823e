pub mod Markups
pub mod Pages
