pub mod Laws
pub mod Text
pub mod aids
pub use Rattle.places.specs.Documents
pub use Rattle.places.specs.Faults
pub use Rattle.places.specs.Places
pub use Rattle.places.specs.Witness
