pub mod NewLines
pub mod PartLemmas
pub mod SceneLemmas
pub mod CalmLemmas
