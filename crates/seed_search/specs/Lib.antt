pub mod Found
pub use Rattle.recorded_runs.specs.Range
