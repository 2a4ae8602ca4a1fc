pub mod Calls
pub mod Clients
pub mod Exchanges
pub mod Inside
pub mod Openings
pub mod Pages
pub mod Turns
pub mod body
