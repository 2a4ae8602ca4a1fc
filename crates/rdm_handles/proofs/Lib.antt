pub mod Common
pub mod FormLemmas
pub mod Pointers
pub mod Handles
pub mod Conversions
pub mod EntryLemmas
