pub mod Fault
pub mod Outcome
pub mod body
pub mod LineOutcome
pub mod Explanation
pub mod Program
