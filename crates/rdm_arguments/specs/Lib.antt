pub mod Arguments
pub mod Complaints
