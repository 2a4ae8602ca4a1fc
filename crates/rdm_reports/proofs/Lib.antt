pub mod DiscoveryLemmas
pub mod SceneRuns
pub mod NumberedLemmas
pub mod WritingLemmas
