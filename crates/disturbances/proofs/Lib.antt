mod ScheduleLemmas
pub mod DisturbedLemmas
