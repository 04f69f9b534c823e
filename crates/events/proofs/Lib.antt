pub mod EventLemmas
pub mod HistoryLemmas
mod IndexLemmas
mod LinkLemmas
pub mod DocumentLemmas
mod CallPlaceLemmas
mod PushLemmas
mod RecordLemmas
pub mod OrderLemmas
mod OrderLaws
pub mod RecordLaws
mod LeavingLaws
mod PrefixLaws
pub mod CountLemmas
pub mod AcceptedEvents
pub mod ListedLemmas
pub mod OpenCalls
pub mod PlaceLemmas
mod CutLemmas
mod FrontLemmas
mod LateCalls
pub mod TakenPairLemmas
pub mod CalledDocuments
