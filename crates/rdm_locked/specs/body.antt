-- What only proofs need. Nothing here has to be trusted: no promise speaks of it.
pub mod Found
pub mod Frames
pub mod Keeps
pub mod Oldest
pub mod Own
pub mod Parts
