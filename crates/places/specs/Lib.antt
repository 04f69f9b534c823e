pub mod Places
pub mod Faults
pub mod Witness
pub mod Documents
pub mod Laws
pub mod aids
