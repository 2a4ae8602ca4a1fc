-- What only the proofs need.
pub mod LineReading
pub mod SceneIndices
pub mod Parts
