mod NoteLemmas
mod MergeLemmas
mod AnswerLemmas
mod RecordingLaws
mod ClockLemmas
mod CountLemmas
mod DrawLemmas
mod DenseLemmas
mod FoundLemmas
mod UnrefusedLemmas
mod GatherLemmas
mod RefusalLemmas
pub mod PenLemmas
pub mod SharedLemmas
pub mod ListLemmas
