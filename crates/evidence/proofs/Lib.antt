pub mod FilterLemmas
pub mod HeardLemmas
pub mod CallsByNumber
mod EarlierSteps
mod PlacedCalls
mod MissedWrites
pub mod EvidenceLaws
mod EvidenceLemmas
pub mod RuledOutLemmas
mod KnownPairLemmas
