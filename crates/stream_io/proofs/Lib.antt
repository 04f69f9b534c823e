mod PieceLemmas
pub mod TakenLemmas
pub mod WrittenLemmas
