pub mod Asked
pub mod aids
