-- A client of the rings: what it sent, what it got, and its rings.
use Rattle.std.specs.Prelude.{◌≡◌, ℕ, Bool, ◌||◌, List, [], ◌∷◌, ◌++◌, length, Option, Some, None, nat_le}
use Rattle.std.specs.Prelude.{if◌then◌else◌}
use mathlib.Core.List.{IsPrefix}
use Rattle.rtrb.specs.Ring.{sent as pushed, received as popped, SameProducer, SameConsumer}
use Rattle.rdm_log.specs.declared.outcome.Completion.{Completion}
use Rattle.rdm_log.specs.declared.outcome.AskCompletion.{AskCompletion}
use Rattle.rdm_log.specs.promises.Outcomes.{OutcomeValue}
use Rattle.rdm_client.specs.declared.told.Told.{Told}
use Rattle.rdm_client.specs.declared.told.AskTold.{AskTold}
use Rattle.rdm_client.specs.declared.told.Collected.{Collected}
use Rattle.rdm_client.specs.Desks.{settled, without_oldest, Called}
use Rattle.rdm_lanes.specs.declared.views.history.ViewHistory.{Ghosts}
use Rattle.rdm_lanes.specs.declared.call.ClientCall.{ClientCall}
use Rattle.rdm_lanes.specs.declared.fault.RingFault.{RingFault}
use Rattle.rdm_lanes.specs.declared.fault.RingFault.TheVariants.{Full, Left}
use Rattle.rdm_lanes.specs.declared.client.RingClient.{RingClient}
use Rattle.rdm_lanes.specs.declared.ring_outcome.RingOutcome.{RingOutcome}
use Rattle.rdm_lanes.specs.Calls.{work_in}
use Rattle.rdm_lanes.specs.Told.{values_in, outcome_in}

-- the fault that a client's state shows for a submit or a discover. Left if it has left. Else Full, if as many
-- callbacks are held as it may have, or it has sent as many calls as can be counted. A full ring isn't shown here
abbrev pub call_fault : Bool → ℕ → ℕ → ℕ → Option RingFault
call_fault left places held sent =
    if left then Some Left
    else (if nat_le places held || nat_le 18446744073709551615 sent then Some Full else None)

module _ {J : Type 0} {h : Ghosts J} {C A : Type 0} where
  -- the submits and discovers that a client sent, in order
  abbrev pub sent_by : RingClient J C A h → List ClientCall
  sent_by client = work_in (pushed client.calls)

  -- the outcomes that a client got, in order
  abbrev pub got_by : RingClient J C A h → List OutcomeValue
  got_by client = values_in (popped client.replies)

  -- the fault of a submit that a client shows: Left, or else Full if the queue depth is reached or the calls have run
  -- out. A full ring isn't shown here
  abbrev pub submit_fault : RingClient J C A h → Option RingFault
  submit_fault client =
      call_fault client.left client.desk.places (length client.desk.requests) client.sent

  -- the fault of a discover that a client shows: Left, or else Full if four discoveries are outstanding or the calls
  -- have run out. A full ring isn't shown here
  abbrev pub discover_fault : RingClient J C A h → Option RingFault
  discover_fault client = call_fault client.left 4 (length client.desk.asks) client.sent

  -- The client collected an outcome, the next one of its ring. The oldest callback of the outcome's kind was called
  -- with it, returned this, and is no longer held.
  abbrev pub Collects : (C → Completion → Told → Type 0) → (C → ℕ) → (A → AskCompletion → AskTold → Type 0) → (A → ℕ)
      → RingClient J C A h → Collected → RingClient J C A h → Type 0
  Collects calls tag_of ask_calls ask_tag_of old told new = (item : RingOutcome)
      × (popped new.replies ≡ popped old.replies ++ item ∷ []) × Called calls ask_calls old.desk (outcome_in item) told
      × (settled tag_of ask_tag_of old.desk (outcome_in item) ≡ Some told)
      × (new.desk ≡ without_oldest old.desk (outcome_in item))

  -- the client's rings are the same
  abbrev pub SameClient : RingClient J C A h → RingClient J C A h → Type 0
  SameClient old new = SameProducer old.calls new.calls × SameConsumer old.replies new.replies

  -- the client's rings are the same, it has read no more views, and it has left only if it had
  abbrev pub StaysClient : RingClient J C A h → RingClient J C A h → Type 0
  StaysClient old new = SameClient old new × (new.left ≡ old.left) × (new.views ≡ old.views)

  -- The client read what was published, and did nothing else. What it had read before is a prefix of what it has read
  -- now.
  abbrev pub HasRead : RingClient J C A h → RingClient J C A h → Type 0
  HasRead old new = SameClient old new × IsPrefix old.views new.views × (sent_by new ≡ sent_by old)
      × (got_by new ≡ got_by old) × (new.left ≡ old.left) × (new.desk ≡ old.desk)
