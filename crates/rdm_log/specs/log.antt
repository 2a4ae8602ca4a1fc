-- What a log says, and when it is legal.
pub mod Entries
pub mod History
pub mod Clients
pub mod BrokenKeys
pub mod Broken
pub mod Runs
pub mod Refusals
pub mod Due
pub mod MaySend
pub mod MayFinish
pub mod MayAnswer
pub mod Legal
pub mod Config
pub mod LogState
