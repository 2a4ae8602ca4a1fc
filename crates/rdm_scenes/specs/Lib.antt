pub mod Exchanges
pub mod Scenes
pub mod Reports
