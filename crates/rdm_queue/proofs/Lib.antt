pub mod Common
pub mod BodyLemmas
