pub mod FormLemmas
pub mod CollisionForms
pub mod DeviceForms
pub mod KnownForms
pub mod FileLemmas
pub mod CommandLemmas
pub mod SessionForms
pub mod FiveLemmas
