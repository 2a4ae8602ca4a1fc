-- What a log's fields keep. Nothing here has to be trusted: no promise speaks of it.
pub mod LogInvariant
