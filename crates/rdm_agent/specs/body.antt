-- What only the proofs need.
pub mod Sound
pub mod AgentFields
pub mod GoesOn
