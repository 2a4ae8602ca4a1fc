-- The steps in which a worker makes a client's call, and what they leave unchanged for the other clients.
use Rattle.std.specs.Prelude.{◌≡◌, ◌≢◌, ℕ, ◌+◌, ◌<◌, false, List, [], ◌∷◌, ◌++◌, Option, None, Some, Result, Ok, Err}
use Rattle.std.specs.Prelude.{MatchBool, slice_get}
use Rattle.rtrb.specs.Ring.{sent as pushed, known_free, SameProducer, ProducerLooked}
use Rattle.rdm_join.specs.declared.status.Status.TheVariants.{FailedToSend}
use Rattle.rdm_log.specs.declared.fault.WorkFault.{WorkFault}
use Rattle.rdm_log.specs.declared.fault.WorkFault.TheVariants as work_faults
use Rattle.rdm_log.specs.declared.outcome.OutcomeKind.{OutcomeKind}
use Rattle.rdm_log.specs.declared.outcome.OutcomeKind.TheVariants as kinds
use Rattle.rdm_log.specs.declared.work.Work.{Work}
use Rattle.rdm_log.specs.declared.work.Work.TheVariants as works
use Rattle.rdm_log.specs.promises.Outcomes.{OutcomeValue, completion_of, never_begun}
use Rattle.rdm_log.specs.promises.Outcomes.OutcomeValue.{RequestValue, DiscoveryValue}
use Rattle.rdm_log.specs.log.LogState.{LogState, is_full_log}
use Rattle.rdm_log.specs.log.History.{is_closed, places}
use Rattle.rdm_log.specs.log.Clients.{uncollected, outstanding_requests, outstanding_discoveries}
use Rattle.rdm_lanes.specs.declared.call.ClientCall.{ClientCall}
use Rattle.rdm_lanes.specs.declared.call.ClientCall.TheVariants.{Submit, Discover, Leave}
use Rattle.rdm_lanes.specs.declared.ring_outcome.RingOutcome.{RingOutcome}
use Rattle.rdm_lanes.specs.declared.worker.lane.Lane.{Lane}
use Rattle.rdm_lanes.specs.Calls.{calls_by}
use Rattle.rdm_lanes.specs.Lanes.{LaneFits, FitsBut, SameLane}
use Rattle.rdm_lanes.specs.Lines.{SameSwitches, IsBetweenTurns}
use Rattle.rdm_lanes.specs.Told.{value_in, told_values, uncollected_values}
use Rattle.rdm_lanes.specs.body.Quiet.{NoExchange}

-- client c called nothing and collected nothing from old to new; there may be more outcomes for it to collect
pub record IsOnlyTold (c : ℕ) (old new : LogState) : Type 0 where
  pub calls_are : calls_by c new.entries ≡ calls_by c old.entries
  pub more : List (Option OutcomeValue)
  pub told_more : told_values new.opening c new.entries ≡ told_values old.opening c old.entries ++ more
  pub uncollected_more : uncollected_values new.opening c new.entries
      ≡ uncollected_values old.opening c old.entries ++ more
  pub requests_are : outstanding_requests new.opening c new.entries ≡ outstanding_requests old.opening c old.entries
  pub asks_are : outstanding_discoveries new.opening c new.entries ≡ outstanding_discoveries old.opening c old.entries

-- Only client c called or collected anything from old to new. Its lane, which was `lane` and is `next`, fits the log.
pub record StepsFor (c : ℕ) (old : LogState) (lane : Lane) (new : LogState) (next : Lane) : Type 0 where
  pub fits : LaneFits c new next
  pub served : IsBetweenTurns new
  pub others : (d : ℕ) → d ≢ c → IsOnlyTold d old new
  pub line : NoExchange old new
  pub switches : SameSwitches old new
  pub rings : SameLane lane next

-- all outcomes of client c are on its ring, which has a free slot
abbrev pub HasRefusalSlot : ℕ → LogState → Lane → Type 0
HasRefusalSlot c k lane = (uncollected k.opening c k.entries ≡ []) × (0 < known_free lane.replies)

-- The call of client c may be made. A leave always may. A submit or a discover may if the client has capacity for it,
-- or, after a close, if its ring can take the refusal.
abbrev pub MayMake : ℕ → LogState → Lane → ClientCall → Type 0
MayMake c k lane (Submit request) =
    MatchBool (is_closed k.opening k.entries) (HasRefusalSlot c k lane) (lane.requests < lane.places)
MayMake c k lane (Discover kind) = MatchBool (is_closed k.opening k.entries) (HasRefusalSlot c k lane) (lane.asks < 4)
MayMake c k lane Leave = Unit {0}

-- The call was taken from the ring of client c, and may be made now. The log isn't full, and the lane fits the log
-- except for this call.
pub record IsReadyFor (call : ClientCall) (c : ℕ) (k : LogState) (lane : Lane) : Type 0 where
  pub known : slice_get (places k.opening k.entries) c ≡ Some lane.places
  pub fits : FitsBut (call ∷ []) c k lane
  pub served : IsBetweenTurns k
  pub free : is_full_log k ≡ false
  pub may : MayMake c k lane call

-- the worker looked for a free slot, and nothing else changed
pub record LooksForSlot (old new : Lane) : Type 0 where
  pub looked : ProducerLooked old.replies new.replies
  pub rest : new ≡ record old { replies = new.replies }

-- an outcome was put on the lane's ring, and nothing else changed
pub record PutsOn (item : RingOutcome) (old new : Lane) : Type 0 where
  pub ring : SameProducer old.replies new.replies
  pub put : pushed new.replies ≡ pushed old.replies ++ item ∷ []
  pub rest : new ≡ record old { replies = new.replies }

-- an outcome that its client sees as this value was put there
pub record PutsValue (value : OutcomeValue) (old new : Lane) : Type 0 where
  pub item : RingOutcome
  pub is : value_in item ≡ value
  pub puts : PutsOn item old new

-- the call that brings this work
abbrev pub bringing : Work → ClientCall
bringing (works.Submit request) = Submit request
bringing (works.Discover kind) = Discover kind

-- the kind of its outcome
abbrev pub kind_of_work : Work → OutcomeKind
kind_of_work (works.Submit request) = kinds.Request
kind_of_work (works.Discover kind) = kinds.Discovery

-- the outcome of work of this kind that a close refuses
abbrev pub refused_value : OutcomeKind → OutcomeValue
refused_value kinds.Request = RequestValue None (completion_of FailedToSend None)
refused_value kinds.Discovery = DiscoveryValue None never_begun

-- the client has capacity for work of this kind
abbrev pub HasCapacityFor : OutcomeKind → Lane → Type 0
HasCapacityFor kinds.Request lane = lane.requests < lane.places
HasCapacityFor kinds.Discovery lane = lane.asks < 4

-- one more of this kind is outstanding
abbrev pub counted : OutcomeKind → Lane → Lane
counted kinds.Request lane = record lane { requests = lane.requests + 1 }
counted kinds.Discovery lane = record lane { asks = lane.asks + 1 }

-- what the worker does with the answer to work: it counts it, or puts a close's refusal on the ring
abbrev pub AfterFault : OutcomeKind → Lane → WorkFault → Lane → Type 0
AfterFault kind old work_faults.Closed new = PutsValue (refused_value kind) old new
AfterFault kind old _ new = new ≡ old

abbrev pub AfterAnswer : OutcomeKind → Lane → Result ℕ (WorkFault × Work) → Lane → Type 0
AfterAnswer kind old (Ok n) new = new ≡ counted kind old
AfterAnswer kind old (Err e) new = AfterFault kind old e.0 new

-- the lane has capacity for that
abbrev pub FitsAnswer : OutcomeKind → Lane → Result ℕ (WorkFault × Work) → Type 0
FitsAnswer kind lane (Ok n) = HasCapacityFor kind lane
FitsAnswer kind lane (Err e) = e.0 ≡ work_faults.Closed → 0 < known_free lane.replies
