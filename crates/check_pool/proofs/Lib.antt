pub mod JobLemmas
pub mod Lists
pub mod MessageLemmas
pub mod RecordLemmas
pub mod SlotLemmas
