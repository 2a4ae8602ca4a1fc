pub mod Discovery
pub mod SceneDiscovery
pub mod Report
pub mod SessionReport
pub mod Writing
pub mod LogText
pub mod OpeningText
