-- The sample logs are legal.
pub mod SampleLegal
pub mod PartsLegal
pub mod RunsLegal
pub mod FailedRuns
