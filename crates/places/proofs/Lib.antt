pub mod WalkLemmas
pub mod DocumentLaws
pub mod PlaceLemmas
