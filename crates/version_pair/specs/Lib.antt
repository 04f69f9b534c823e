pub mod PairOrder
pub mod Id
pub mod Shards
