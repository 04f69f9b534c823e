mod ClientLemmas
mod CauseLemmas
mod DrawingLemmas
mod PlanLemmas
mod RoundLemmas
mod RunningLemmas
mod SeatLemmas
mod OnceLemmas
mod PlayerLemmas
pub mod PlayedLemmas
