pub mod ArgumentLemmas
mod CommandLemmas
mod ComplaintLemmas
mod ReadingLemmas
