-- What the steps of a worker change, and what they keep.
use Rattle.std.specs.Prelude.{◌≡◌, ◌≢◌, ◌+◌, ◌≤◌, ℕ, Bool, true, false, List, length, Option, IfSome, IfNone}
use mathlib.Core.List.{IsPrefix}
use Rattle.rtrb.specs.Ring.{SameConsumer}
use Rattle.left_right.specs.declared.Absorb.{Ghosts as Absorbs}
use Rattle.rdm_line.specs.Events.{Exchange}
use Rattle.rdm_log.specs.log.LogState.{LogState, is_full_log}
use Rattle.rdm_log.specs.log.MaySend.{NoSend}
use Rattle.rdm_client.specs.declared.view.DeviceView.{DeviceView}
use Rattle.rdm_client.specs.declared.worker_end.WorkerEnd.{WorkerEnd}
use Rattle.rdm_client.specs.declared.worker_end.WorkerEnd.TheVariants.{AllLeft, Turns, LogFull as FullLog}
use Rattle.rdm_lanes.specs.declared.views.history.ViewHistory.{Ghosts}
use Rattle.rdm_lanes.specs.declared.views.publishing.Shown.{Shown}
use Rattle.rdm_lanes.specs.declared.worker.Worker.{Worker}
use Rattle.rdm_lanes.specs.declared.worker.view_worker.ViewWorker.{ViewWorker}
use Rattle.rdm_lanes.specs.declared.worker.working.Attempt.{Attempt}
use Rattle.rdm_lanes.specs.declared.worker.working.Attempt.TheVariants.{Exchanged as MadeOne, NothingToSend}
use Rattle.rdm_lanes.specs.declared.worker.working.Attempt.TheVariants.{LogFull as NoRoom}
use Rattle.rdm_lanes.specs.Lanes.{SameLanes, AllHaveLeft}
use Rattle.rdm_lanes.specs.Lines.{Exchanged, SameSwitches, IsBetweenTurns, exchange_count}
use Rattle.rdm_lanes.specs.Turns.{IsTurn}
use Rattle.rdm_lanes.specs.Views.{views_found, all_views}
use Rattle.rdm_lanes.specs.Workers.{session_of, lanes_of, published_by}
use Rattle.rdm_lanes.specs.body.Doing.{AreMoved, AreServed, SameOperator}
use Rattle.rdm_lanes.specs.body.Gains.{GainOneAtMost}
use Rattle.rdm_lanes.specs.body.Quiet.{NoExchange}
use Rattle.rdm_lanes.specs.body.Serving.{IsOnlyTold}
use Rattle.rdm_lanes.specs.body.Showing.{AllPublished}

-- What every step keeps: each lane and the operator have the same rings, and each client its queue depth. Once the
-- operator has left, nobody pauses, resumes or closes.
pub record Steps (old new : Worker) : Type 0 where
  pub lanes : SameLanes old.lanes.items new.lanes.items
  pub ring : SameConsumer old.operator new.operator
  pub operator : old.operator_left ≡ true → (new.operator_left ≡ true) × SameSwitches old.session new.session

-- nothing was received from a ring, and nothing was put on one
abbrev pub SameEnds : Worker → Worker → Type 0
SameEnds old new = (new.lanes ≡ old.lanes) × SameOperator old new

-- calls of the operator may have been made
pub record ServesOperator (old new : Worker) : Type 0 where
  pub line : NoExchange old.session new.session
  pub lanes : new.lanes ≡ old.lanes
  pub steps : Steps old new

-- what an attempt at an exchange came to, from one log to another
abbrev pub Did : Attempt → LogState → LogState → Type 0
Did MadeOne old new = exchange_count new ≡ exchange_count old + 1
Did NothingToSend old new = NoSend new.opening new.entries
Did NoRoom old new = is_full_log new ≡ true

-- An exchange was attempted, and came to this. It may have added one view. No client called or collected anything, and
-- nobody paused, resumed or closed.
pub record Attempted {L : Type 0} (step : L → Exchange → L → Type 0) (before : L) (old : LogState) (after : L)
    (new : LogState) (attempt : Attempt) : Type 0 where
  pub exchanged : Exchanged step before old after new
  pub one : exchange_count new ≤ exchange_count old + 1
  pub did : Did attempt old new
  pub found : GainOneAtMost (views_found old.entries) (views_found new.entries)
  pub switches : SameSwitches old new
  pub served : IsBetweenTurns new
  pub wait : (c : ℕ) → IsOnlyTold c old new

-- why a worker may stop after a turn; it never does with Turns
abbrev pub StopsAs : WorkerEnd → Worker → Type 0
StopsAs AllLeft w =
    AllHaveLeft w.lanes.items × (w.operator_left ≡ true) × NoSend w.session.opening w.session.entries
StopsAs FullLog w = is_full_log w.session ≡ true
StopsAs Turns w = ⊥

module _ {J T R : Type 0} {h : Ghosts J} {v : Absorbs T (Shown J) (List DeviceView)} where
  -- no view was added or published, and no turn was counted
  abbrev pub SameViews : ViewWorker J T R h v → ViewWorker J T R h v → Type 0
  SameViews old new = (new.views ≡ old.views) × (new.turns_made ≡ old.turns_made)

  -- what every step of a worker keeps that publishes views: none is withdrawn
  pub record ViewSteps (old new : ViewWorker J T R h v) : Type 0 where
    pub server : Steps old.server new.server
    pub shown : IsPrefix old.views.shown new.views.shown

  -- what wasn't published yet was published, unless that failed
  pub record PublishesNext (old : ViewWorker J T R h v) (done : Bool) (new : ViewWorker J T R h v) : Type 0 where
    pub made : done ≡ true → AllPublished (session_of new) new.views
    pub refused : done ≡ false → published_by new ≢ all_views (session_of new).entries
    pub views : IsPrefix (published_by old) (published_by new)
    pub server : new.server ≡ old.server
    pub count : new.turns_made ≡ old.turns_made

  -- the outcomes of each client were moved
  pub record MovesAll (old new : ViewWorker J T R h v) : Type 0 where
    pub moved : AreMoved (length (lanes_of old)) old.server new.server
    pub published : AllPublished (session_of new) new.views
    pub views : SameViews old new

  -- the worker may stop like this, and has published all views
  abbrev pub Stops : WorkerEnd → ViewWorker J T R h v → Type 0
  Stops end w = AllPublished (session_of w) w.views × StopsAs end w.server

module _ {L J T R : Type 0} {h : Ghosts J} {v : Absorbs T (Shown J) (List DeviceView)}
    (step : L → Exchange → L → Type 0) where
  -- each client was served, then calls of the operator may have been made, and then an exchange was attempted
  pub record CallsAndAttempts (before : L) (old : ViewWorker J T R h v) (after : L) (new : ViewWorker J T R h v)
      (attempt : Attempt) : Type 0 where
    pub after_clients : Worker
    pub after_operator : Worker
    pub clients : AreServed (length (lanes_of old)) old.server after_clients
    pub operator : ServesOperator after_clients after_operator
    pub attempted : Attempted step before after_operator.session after (session_of new) attempt
    pub ends : SameEnds after_operator new.server
    pub views : SameViews old new

  -- A turn was made, and its attempt at an exchange came to this. None: a publication failed.
  pub record Turned (before : L) (old : ViewWorker J T R h v) (after : L) (new : ViewWorker J T R h v)
      (attempt : Option Attempt) : Type 0 where
    pub exchanged : Exchanged step before (session_of old) after (session_of new)
    pub one : exchange_count (session_of new) ≤ exchange_count (session_of old) + 1
    pub steps : ViewSteps old new
    pub did : IfSome attempt (λ a. AllPublished (session_of new) new.views × Did a (session_of old) (session_of new))
    pub refused : IfNone attempt (published_by new ≢ all_views (session_of new).entries)
    pub count : new.turns_made ≡ old.turns_made

  -- a turn was made, after which the worker stops like this, or goes on
  pub record EndsTurn (before : L) (old : ViewWorker J T R h v) (after : L) (new : ViewWorker J T R h v)
      (end : Option WorkerEnd) : Type 0 where
    pub exchanged : Exchanged step before (session_of old) after (session_of new)
    pub one : exchange_count (session_of new) ≤ exchange_count (session_of old) + 1
    pub steps : ViewSteps old new
    pub went_on : IfNone end (IsTurn (session_of old) (session_of new) (published_by new))
    pub stops : IfSome end (λ e. Stops e new)
    pub counted : new.turns_made ≡ old.turns_made + 1
