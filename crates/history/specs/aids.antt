pub mod Rules
pub mod Taking
pub mod Writing
