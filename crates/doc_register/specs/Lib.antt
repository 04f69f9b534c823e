pub mod Register
pub mod Run
pub mod Documents
pub mod WorkedSteps
pub mod Laws
pub mod aids
