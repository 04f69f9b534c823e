pub mod DocumentSteps
mod Counts
mod LostCounts
pub mod OrderedSteps
pub mod RecordOrder
pub mod ReportedStates
pub mod OrderedPositions
mod FittingBranches
mod LostCalls
mod PerformedCalls
mod ServedCalls
pub mod WalkLaws
mod AboveLemmas
mod EndLemmas
mod BesideLemmas
mod ItemLemmas
mod KnownLemmas
mod VersionLemmas
mod GroupLemmas
mod CandidateLemmas
mod StepLemmas
mod TableLemmas
mod EventLemmas
