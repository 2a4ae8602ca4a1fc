pub mod log
pub mod promises
pub mod body
pub mod samples
