-- What only the proofs need.
pub mod Agreement
pub mod Scripts
