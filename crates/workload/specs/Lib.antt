pub mod Plans
pub mod Drawing
pub mod ClientRuns
pub mod RunFaults
pub mod Playing
pub mod aids
