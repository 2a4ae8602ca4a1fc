-- How a worker serves its clients and moves their outcomes, what it leaves undone for a client, and why.
use Rattle.std.specs.Prelude.{◌≡◌, ◌≢◌, ◌⊎◌, ⊤, ℕ, ◌+◌, ◌<◌, ◌≤◌, Bool, true, false, [], Some, MatchOption}
use Rattle.std.specs.Prelude.{slice_get, slice_set}
use Rattle.rtrb.specs.Ring.{received as popped, known_free, known_items}
use Rattle.rdm_log.specs.declared.outcome.OutcomeKind.TheVariants as kinds
use Rattle.rdm_log.specs.log.LogState.{LogState, is_full_log}
use Rattle.rdm_log.specs.promises.Outcomes.{oldest_kind}
use Rattle.rdm_lanes.specs.declared.worker.Worker.{Worker}
use Rattle.rdm_lanes.specs.declared.worker.lane.Lane.{Lane}
use Rattle.rdm_lanes.specs.Lanes.{LaneFits, SameLanes}
use Rattle.rdm_lanes.specs.Lines.{IsBetweenTurns, SameSwitches}
use Rattle.rdm_lanes.specs.body.Quiet.{NoExchange, OnlyCollects}
use Rattle.rdm_lanes.specs.body.Serving.{MayMake, StepsFor}

-- nothing was received from the operator
abbrev pub SameOperator : Worker → Worker → Type 0
SameOperator old new = (new.operator ≡ old.operator) × (new.operator_left ≡ old.operator_left)

-- what a step keeps that makes no call of the operator
pub record StepsAlone (old new : Worker) : Type 0 where
  pub lanes : SameLanes old.lanes.items new.lanes.items
  pub operator : SameOperator old new
  pub switches : SameSwitches old.session new.session

-- only outcomes of client c were collected from old to new
pub record MovesFor (c : ℕ) (old : LogState) (lane : Lane) (new : LogState) (next : Lane) : Type 0 where
  pub step : StepsFor c old lane new next
  pub collects : OnlyCollects old new

-- an outcome of client c may be moved to its ring: a slot is free
pub record MayMoveOne (c : ℕ) (k : LogState) (lane : Lane) : Type 0 where
  pub fits : LaneFits c k lane
  pub served : IsBetweenTurns k
  pub slot : 0 < known_free lane.replies

-- An outcome of client c was moved to its ring, and takes a slot. Or none was: then nothing changed, and the oldest
-- isn't a request's.
pub record MovesOne (c : ℕ) (old : LogState) (lane : Lane) (done : Bool) (new : LogState) (next : Lane) : Type 0 where
  pub moves : MovesFor c old lane new next
  pub moved : done ≡ true → known_free lane.replies ≡ known_free next.replies + 1
  pub kept : done ≡ false → (new ≡ old) × (next ≡ lane)
  pub none : done ≡ false → oldest_kind new.opening new.entries c ≢ Some kinds.Request

-- No request's outcome of client c can be moved to its ring now: no slot is known to be free, or its oldest outcome, if
-- it has one, is a discovery's. That one may be left, since an allocation for its set can fail.
abbrev pub IsMoved : ℕ → LogState → Lane → Lane → Type 0
IsMoved c k old new =
    (known_free new.replies ≡ 0) ⊎ (oldest_kind k.opening k.entries c ≢ Some kinds.Request)

-- the next call in the ring of client c may not be made now; there may be none
abbrev pub MayNotMakeNext : ℕ → LogState → Lane → Type 0
MayNotMakeNext c k lane = MatchOption (slice_get (known_items lane.calls) 0) ⊤ (λ call. MayMake c k lane call → ⊥)

-- a call of client c was received; or none is known of, the log is full, or the next one may not be made now
abbrev pub IsServed : ℕ → LogState → Lane → Lane → Type 0
IsServed c k old new = popped new.calls ≡ popped old.calls
    → (known_items new.calls ≡ []) ⊎ ((is_full_log k ≡ true) ⊎ MayNotMakeNext c k new)

-- What a worker does for each client in turn: `Done` says what it leaves, and `Grows` what the log may get meanwhile.
module _ (Grows : LogState → LogState → Type 0) (Done : ℕ → LogState → Lane → Lane → Type 0) where
  -- it did this for client c, whose lane was `lane` and is `next`
  pub record DoesFor (c : ℕ) (old : LogState) (lane : Lane) (new : LogState) (next : Lane) : Type 0 where
    pub step : StepsFor c old lane new next
    pub grows : Grows old new
    pub done : Done c new lane next

  -- the same in a worker, whose other lanes are unchanged
  pub record DoesAt (c : ℕ) (old new : Worker) : Type 0 where
    pub lane : Lane
    pub next : Lane
    pub was : slice_get old.lanes.items c ≡ Some lane
    pub set : new.lanes.items ≡ slice_set old.lanes.items c next
    pub does : DoesFor c old.session lane new.session next
    pub operator : SameOperator old new

  -- at some point from old to new it was done for client c, whose lane is `lane` before, and `next` after
  pub record WasDone (c : ℕ) (old : LogState) (lane : Lane) (new : LogState) (next : Lane) : Type 0 where
    pub moment : LogState
    pub before : Grows old moment
    pub after : Grows moment new
    pub done : Done c moment lane next

  -- it was done for each of the first n clients, and the lanes of the others are the same
  pub record AreDone (n : ℕ) (old new : Worker) : Type 0 where
    pub each : (i : ℕ) (lane next : Lane) → i < n → slice_get old.lanes.items i ≡ Some lane
        → slice_get new.lanes.items i ≡ Some next → WasDone i old.session lane new.session next
    pub rest : (i : ℕ) (lane : Lane) → n ≤ i → slice_get new.lanes.items i ≡ Some lane
        → slice_get old.lanes.items i ≡ Some lane
    pub grows : Grows old.session new.session
    pub steps : StepsAlone old new

-- each of the first n clients was served: a call of it was received, or none could be
abbrev pub AreServed : ℕ → Worker → Worker → Type 0
AreServed n old new = AreDone NoExchange IsServed n old new

-- the outcomes of each of the first n clients were moved, as far as that is known to be possible
abbrev pub AreMoved : ℕ → Worker → Worker → Type 0
AreMoved n old new = AreDone OnlyCollects IsMoved n old new
