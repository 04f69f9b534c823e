pub mod Evidence
pub mod aids
