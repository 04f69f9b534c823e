pub mod ListedDocuments
mod FlatPlaces
pub mod TakenPlaces
mod SearchedLemmas
mod FoundLemmas
mod CoveringLemmas
pub mod Yielded
