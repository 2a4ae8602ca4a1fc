-- Which Finishes may follow.
use Rattle.std.specs.Prelude.{◌≡◌, ◌≢◌, ◌⊎◌, ℕ, true, false, List, [], length, Option, Some, None, slice_get}
use Rattle.rdm_join.specs.declared.status.Status.{Status}
use Rattle.rdm_join.specs.declared.status.Status.TheVariants.{Completed, FailedToSend, NoMemory}
use Rattle.rdm_join.specs.Result.{Joined}
use Rattle.rdm_log.specs.declared.entry.Opening.{Opening}
use Rattle.rdm_log.specs.declared.entry.Entry.{Entry}
use Rattle.rdm_log.specs.log.Entries.{Accepted, result}
use Rattle.rdm_log.specs.log.History.{awaited, is_closed, unfinished, unanswered}
use Rattle.rdm_log.specs.log.Runs.{unserved}

-- a close ends what is left: the queue is closed, no reply is awaited, and no run has a discovery left to answer
pub record IsClosing (o : Opening) (h : List Entry) : Type 0 where
  pub closed : is_closed o h ≡ true
  pub not_awaited : awaited h ≡ false
  pub runs_answered : unanswered h ≡ unserved h

-- a status and a length report a joined result: they are its own, or there was no memory for its data
abbrev pub FitsJoined : Joined → Status → ℕ → Type 0
FitsJoined j status len =
    ((status ≡ j.status) × (len ≡ length j.data_))
    ⊎ ((status ≡ NoMemory) × (j.status ≡ Completed) × (j.data_ ≢ []) × (len ≡ 0))

-- they fit a decided result if they report it; an open one as FailedToSend without data, if a close ends the request
abbrev pub FitsResult : Type 0 → Option Joined → Status → ℕ → Type 0
FitsResult closing None status len = closing × (status ≡ FailedToSend) × (len ≡ 0)
FitsResult closing (Some j) status len = FitsJoined j status len

-- the oldest unfinished request may be finished
pub record MayFinish (o : Opening) (h : List Entry) (n : ℕ) (status : Status) (len : ℕ) : Type 0 where
  pub accepted : Accepted
  pub oldest : slice_get (unfinished h) 0 ≡ Some accepted
  pub number : n ≡ accepted.number
  pub fits : FitsResult (IsClosing o h) (result n h) status len
