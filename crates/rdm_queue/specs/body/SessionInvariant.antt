-- A session's invariant, for its controller and its log.
use Rattle.std.specs.Prelude.{◌≡◌, ◌+◌, ◌≤◌, List, length}
use Rattle.rdm_log.specs.declared.entry.Entry.{Entry}
use Rattle.rdm_log.specs.log.History.{reserved}
use Rattle.rdm_log.specs.log.LogState.{LogState, grown}
use Rattle.rdm_log.specs.promises.Blocks.{AllResults}
use Rattle.rdm_log.specs.promises.InBound.{AnswersInBound}
use Rattle.rdm_log.specs.promises.LogInBound.{InBound}
use Rattle.rdm_queue.specs.body.State.{QueueState}
use Rattle.rdm_queue.specs.body.Describes.{StandsAmid, StandsAfter}

-- the entries and those that are reserved fit
abbrev pub HasRoom : LogState → Type 0
HasRoom k = length k.entries + reserved k.opening k.entries ≤ k.room

-- the log describes the controller's state; it is legal, in bound, and large enough
pub record SessionInvariant (s : QueueState) (k : LogState) : Type 0 where
  pub after : StandsAfter k.opening k.entries s
  pub room : HasRoom k
  pub in_bound : InBound k

-- the same within a block of entries: Finishes and Answers may still be due
pub record SessionAmid (s : QueueState) (k : LogState) : Type 0 where
  pub amid : StandsAmid k.opening k.entries s
  pub room : HasRoom k
  pub in_bound : InBound k

-- all that was due was ended: the log has one more Finish or Answer for each, and the session's invariant holds again
pub record FinishesDue (old : LogState) (s : QueueState) (new : LogState) : Type 0 where
  pub results : List Entry
  pub each : AllResults results
  pub in_bound : AnswersInBound old results
  pub grows : new ≡ grown old results
  pub kept : SessionInvariant s new
