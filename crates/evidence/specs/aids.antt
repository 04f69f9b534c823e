pub mod CallsWithPairs
pub mod KnownPairs
pub mod RuledOutCalls
