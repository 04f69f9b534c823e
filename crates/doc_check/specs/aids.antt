pub mod Stretches
pub mod Sweep
pub mod Order
pub mod CheckedPlaces
