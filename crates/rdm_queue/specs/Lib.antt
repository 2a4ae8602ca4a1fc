pub mod promises
pub mod body
