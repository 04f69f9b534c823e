pub mod Pens
pub mod Recordings
pub mod Closing
pub mod Clock
pub mod Laws
pub mod aids
