pub mod CallPlaces
pub mod Documents
pub mod Fronts
pub mod Indexes
