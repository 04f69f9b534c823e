mod RisesLemmas
pub mod AnsweredCallLemmas
