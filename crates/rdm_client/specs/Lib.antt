pub mod Boxed
pub mod Callbacks
pub mod Desks
pub mod Collects
pub mod Faults
