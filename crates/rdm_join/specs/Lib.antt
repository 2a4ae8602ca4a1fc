pub mod Statuses
pub mod Verdict
pub mod Result
pub mod JoinerStanding
pub mod Exchange
pub mod body
