-- What a client of a session file does in its turns, and what it remembers.
use Rattle.std.specs.Prelude.{◌≡◌, ◌⊎◌, ℕ, ◌+◌, ◌≤◌, ◌++◌, ◌∷◌, [], ◌==◌, Bool, true, false, length, slice_get}
use Rattle.std.specs.Prelude.{Option, Some, None}
use Rattle.rdm_wire.specs.Devices.{uids_of}
use Rattle.rdm_client.specs.declared.told.AskTold.{AskTold}
use Rattle.rdm_client.specs.declared.told.Collected.{Collected}
use Rattle.rdm_client.specs.declared.told.Collected.TheVariants as collected
use Rattle.rdm_client.specs.declared.worker_end.WorkerEnd.{WorkerEnd}
use Rattle.rdm_client.specs.declared.worker_end.WorkerEnd.TheVariants.{AllLeft, Turns, LogFull}
use Rattle.rdm_reports.specs.declared.outcomes.Outcomes.{Outcomes}
use Rattle.rdm_reports.specs.declared.outcomes.Discovered.{Discovered}
use Rattle.rdm_serving.specs.declared.serving.script.Script.{Script}
use Rattle.rdm_serving.specs.declared.serving.script.Next.{Next}
use Rattle.rdm_serving.specs.declared.serving.script.Next.TheVariants.{Call, Collect, Done}

-- each call has an outcome
abbrev pub has_all : Script → Bool
has_all s = (length s.outcomes.requests.items + length s.outcomes.discoveries.items) == length s.calls.now

-- how many calls were accepted and outcomes collected; each took a turn
abbrev pub done_by : Script → ℕ
done_by s = s.accepted + (length s.outcomes.requests.items + length s.outcomes.discoveries.items)

-- The client makes its calls in order. It collects after a call that found the queue full, and after the last call. It
-- is done once each call has an outcome.
abbrev pub IsNext : Script → Next → Type 0
IsNext s (Call call call_index) =
    (has_all s ≡ false) × (s.is_full ≡ false) × (call_index ≡ s.accepted)
    × (slice_get s.calls.now call_index ≡ Some call.now)
IsNext s Collect = (has_all s ≡ false) × ((s.is_full ≡ true) ⊎ (length s.calls.now ≤ s.accepted))
IsNext s Done = has_all s ≡ true

-- a discovery's outcome is what its callback returned
pub record IsToldBy (told : AskTold) (d : Discovered) : Type 0 where
  pub tag : d.tag ≡ told.tag
  pub fault : d.fault ≡ told.done.fault
  pub uids : d.uids.items ≡ uids_of told.done.set

-- what a collect returned is added to the outcomes of its kind as its callback returned it, and nothing else changes
abbrev pub Notes : Option Collected → Outcomes → Outcomes → Type 0
Notes None old new = new ≡ old
Notes (Some (collected.Request told)) old new =
    (new.requests.items ≡ old.requests.items ++ told ∷ []) × (new.discoveries ≡ old.discoveries)
Notes (Some (collected.Ask told)) old new =
    (d : Discovered) × IsToldBy told d × (new.discoveries.items ≡ old.discoveries.items ++ d ∷ [])
    × (new.requests ≡ old.requests)

-- how many turns a worker made, if it made all of them
abbrev pub ran_out_by : WorkerEnd → ℕ → Option ℕ
ran_out_by Turns made = Some made
ran_out_by AllLeft made = None
ran_out_by LogFull made = None
