pub mod Serving
pub mod LoggedOutcomes
pub mod LoggedCalls
pub mod body
