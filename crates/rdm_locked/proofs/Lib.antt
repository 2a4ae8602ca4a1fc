pub mod CallLemmas
pub mod FinishLemmas
pub mod HistoryLemmas
pub mod PageLemmas
pub mod RecordLemmas
