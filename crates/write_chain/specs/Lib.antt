pub mod AnsweredCalls
pub mod Chain
