-- What a controller's calls say about each log that describes its state (`StandsAfter`).
use Rattle.std.specs.Prelude.{List, [], ◌++◌}
use Rattle.rdm_log.specs.declared.config.Setup.{Setup}
use Rattle.rdm_log.specs.declared.entry.Opening.{Opening}
use Rattle.rdm_log.specs.declared.entry.Entry.{Entry}
use Rattle.rdm_log.specs.log.LogState.{LogState, opened}
use Rattle.rdm_queue.specs.body.State.{QueueState}
use Rattle.rdm_queue.specs.body.Describes.{StandsAfter}

-- this holds for each log that describes the controller's state
abbrev pub ForEachLog : QueueState → (Opening → List Entry → Type 0) → Type 0
ForEachLog s P = (o : Opening) (h : List Entry) → StandsAfter o h s → P o h

-- A new controller with this set-up. The empty log with which a session with this set-up begins describes it.
abbrev pub IsSetUp : Setup → QueueState → Type 0
IsSetUp setup s = StandsAfter (opened setup) [] s

-- the log with one more block, for which this holds, describes the controller
pub record StandsWith (k : LogState) (Adds : List Entry → Type 0) (new : QueueState) : Type 0 where
  pub block : List Entry
  pub adds : Adds block
  pub after : StandsAfter k.opening (k.entries ++ block) new

-- A call of a controller. For each log that describes old, that log with one more block, for which this holds,
-- describes new. No call depends on that log's capacity.
abbrev pub AddsToEach : QueueState → (LogState → List Entry → Type 0) → QueueState → Type 0
AddsToEach old Adds new = (k : LogState) → StandsAfter k.opening k.entries old → StandsWith k (Adds k) new
