-- What each call adds to a log, how a log explains answers, and what clients are promised.
pub mod Outcomes
pub mod InBound
pub mod LogInBound
pub mod Blocks
pub mod Explains
pub mod Headline
pub mod Flags
pub mod Discoveries
pub mod Promised
pub mod EventsHeadline
