pub mod Reading
pub mod Gets
pub mod Laws
pub mod WayBack
pub mod aids
