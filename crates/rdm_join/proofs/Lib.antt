pub mod Determined
pub mod ResultLemmas
pub mod StandingLemmas
