-- What only proofs and type invariants need. Nothing here has to be trusted, since no promise cites it.
pub mod Counts
pub mod Doing
pub mod Gains
pub mod History
pub mod Holding
pub mod Leaves
pub mod Opening
pub mod Operated
pub mod Quiet
pub mod Rooms
pub mod Seats
pub mod Serving
pub mod Showing
pub mod Steps
