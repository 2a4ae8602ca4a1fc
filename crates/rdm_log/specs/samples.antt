-- Logs by hand, to compute with.
pub mod Sample
pub mod SampleParts
pub mod SampleBroken
pub mod SampleRuns
