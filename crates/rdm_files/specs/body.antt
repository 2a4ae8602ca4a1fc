-- What only the proofs need.
pub mod Losses
pub mod Elements
