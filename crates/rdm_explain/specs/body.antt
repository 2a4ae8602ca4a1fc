-- What only the proofs need.
pub mod Standings
pub mod Watching
pub mod FrameTests
pub mod Covering
pub mod Trees
pub mod Trying
pub mod Naming
pub mod Leasts
pub mod Firsts
pub mod Garbling
pub mod Noting
