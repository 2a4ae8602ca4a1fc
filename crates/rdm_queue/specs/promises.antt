-- What a controller's calls say.
pub mod EachLog
pub mod Lengths
pub mod Oldest
pub mod BadUids
