mod WorkedSteps
pub mod RunLemmas
pub mod RunLaws
pub mod DocumentLemmas
