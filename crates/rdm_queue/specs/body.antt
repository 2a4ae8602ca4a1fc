-- What relates the code to the log. Nothing here has to be trusted. The clauses of a controller name only
-- `StandsAfter`. The law `controllers_keep_promises` says all that a reader has to know about it.
pub mod State
pub mod Merged
pub mod Sending
pub mod Ending
pub mod Sets
pub mod Rings
pub mod Fields
pub mod Describes
pub mod QueueInvariant
pub mod SessionInvariant
