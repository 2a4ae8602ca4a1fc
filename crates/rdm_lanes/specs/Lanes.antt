-- What a worker keeps of each client: how its rings and the log agree.
use Rattle.std.specs.Prelude.{◌≡◌, ℕ, ◌≤◌, Bool, true, false, List, [], ◌++◌, length, map, Some, slice_get}
use Rattle.std.specs.List.{list_any}
use Rattle.rtrb.specs.Ring.{sent as pushed, received as popped, SameProducer, SameConsumer}
use Rattle.rdm_log.specs.log.LogState.{LogState}
use Rattle.rdm_log.specs.log.History.{places}
use Rattle.rdm_log.specs.log.Clients.{outstanding_requests, outstanding_discoveries}
use Rattle.rdm_lanes.specs.declared.call.ClientCall.{ClientCall}
use Rattle.rdm_lanes.specs.declared.call.ClientCall.TheVariants.{Leave}
use Rattle.rdm_lanes.specs.declared.worker.lane.Lane.{Lane}
use Rattle.rdm_lanes.specs.Calls.{work_in, calls_by}
use Rattle.rdm_lanes.specs.Told.{values_in, TellsAll}

-- the call is a client's leave
abbrev pub is_leave : ClientCall → Bool
is_leave Leave = true
is_leave _ = false

-- The lane of client c agrees with the log, except for these calls, which were received but not made yet.
pub record FitsBut (pending : List ClientCall) (c : ℕ) (k : LogState) (lane : Lane) : Type 0 where
  -- what was received is what the client called, in order
  pub calls_are : work_in (popped lane.calls) ≡ calls_by c k.entries ++ pending
  -- what was moved to its ring, and then what it hasn't collected, is every outcome that the log has for it
  pub moved_are : TellsAll k.opening c k.entries (values_in (pushed lane.replies))
  -- the counts of what is outstanding
  pub requests_are : lane.requests ≡ outstanding_requests k.opening c k.entries
  pub asks_are : lane.asks ≡ outstanding_discoveries k.opening c k.entries
  -- whether its leave was received
  pub left_is : lane.left ≡ list_any is_leave (popped lane.calls)

-- the lane of client c fits the log
abbrev pub LaneFits : ℕ → LogState → Lane → Type 0
LaneFits c k lane = FitsBut [] c k lane

-- the queue depth of a lane's client
abbrev pub lane_places : Lane → ℕ
lane_places lane = lane.places

-- Each lane agrees with the log. The clients that have joined are those of the lanes, and nobody else called anything.
pub record AllFit (k : LogState) (lanes : List Lane) : Type 0 where
  pub each : (i : ℕ) (lane : Lane) → slice_get lanes i ≡ Some lane → LaneFits i k lane
  pub clients_are : places k.opening k.entries ≡ map lane_places lanes
  pub nobody_else : (c : ℕ) → length lanes ≤ c → calls_by c k.entries ≡ []

-- the lane has the same rings, and its client the same queue depth
abbrev pub SameLane : Lane → Lane → Type 0
SameLane old new =
    SameConsumer old.calls new.calls × SameProducer old.replies new.replies × (new.places ≡ old.places)

-- the same for each lane
pub record SameLanes (old new : List Lane) : Type 0 where
  pub long : length new ≡ length old
  pub each : (i : ℕ) (a b : Lane) → slice_get old i ≡ Some a → slice_get new i ≡ Some b → SameLane a b

-- the leave of each client was received
pub record AllHaveLeft (lanes : List Lane) : Type 0 where
  pub each : (i : ℕ) (lane : Lane) → slice_get lanes i ≡ Some lane → lane.left ≡ true
