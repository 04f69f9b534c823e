pub mod ListLemmas
pub mod PairLemmas
pub mod SortedLists
pub mod TruthLemmas
