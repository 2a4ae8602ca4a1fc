pub mod Common
pub mod LogLemmas
pub mod SampleLemmas
pub mod PromiseLemmas
pub mod BoundLemmas
