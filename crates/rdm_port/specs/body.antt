-- What only the proofs need.
pub mod Texts
pub mod Logged
pub mod Faults
pub mod Parts
pub mod Explained
