-- How a log grows by the steps of its line, and what stays the same in it.
use Rattle.std.specs.Prelude.{◌≡◌, ℕ, Bool, true, false, ◌||◌, List, ◌∷◌, ◌++◌, length, Option, nat_le}
use Rattle.rdm_line.specs.Events.{Exchange, Makes}
use Rattle.rdm_log.specs.declared.entry.Call.{Call}
use Rattle.rdm_log.specs.declared.entry.Cause.{Cause}
use Rattle.rdm_log.specs.declared.entry.ClientId.{ClientId}
use Rattle.rdm_log.specs.declared.entry.Opening.{Opening}
use Rattle.rdm_log.specs.declared.entry.Entry.{Entry}
use Rattle.rdm_log.specs.declared.entry.Entry.TheVariants.{Refuse}
use Rattle.rdm_log.specs.log.Entries.{joins, exchanges}
use Rattle.rdm_log.specs.log.History.{awaited, is_closed, is_paused, next_request, next_ask}
use Rattle.rdm_log.specs.log.LogState.{LogState, grown}
use Rattle.rdm_lanes.specs.Operators.{switches}

-- how many exchanges a log has
abbrev pub exchange_count : LogState → ℕ
exchange_count k = length (exchanges k.entries)

-- The log grew. Its exchanges after those of old are the line's steps, from its value before to its value after. The
-- line got each frame once, and the event that it returned was delivered. Nobody joined.
pub record Exchanged {L : Type 0} (step : L → Exchange → L → Type 0) (before : L) (old : LogState) (after : L)
    (new : LogState) : Type 0 where
  pub block : List Entry
  pub grows : new ≡ grown old block
  pub nobody_joined : joins new.entries ≡ joins old.entries
  pub made : List Exchange
  pub added : exchanges new.entries ≡ exchanges old.entries ++ made
  pub steps : Makes L step before made after

-- nobody paused, resumed or closed
pub record SameSwitches (old new : LogState) : Type 0 where
  pub switches_are : switches new.entries ≡ switches old.entries
  pub paused : is_paused new.opening new.entries ≡ is_paused old.opening old.entries
  pub closed : is_closed new.opening new.entries ≡ is_closed old.opening old.entries

-- whether a call may be refused: the queue is closed, or the numbers of requests or of discoveries have run out
abbrev pub may_refuse : Opening → List Entry → Bool
may_refuse o h =
    is_closed o h || (nat_le 18446744073709551615 (next_request o h) || nat_le 18446744073709551614 (next_ask o h))

-- Calls were refused only if they may be. A close's refusals are outcomes of their clients, so no call is lost.
pub record NoCallLost (k : LogState) : Type 0 where
  pub rightly : (front back : List Entry) (c : Option ClientId) (call : Call) (cause : Cause)
      → k.entries ≡ front ++ Refuse c call cause ∷ back → may_refuse k.opening front ≡ true

-- the log of a session between the turns of a worker: no reply is awaited, and no call was lost
pub record IsBetweenTurns (k : LogState) : Type 0 where
  pub answered : awaited k.entries ≡ false
  pub no_call_lost : NoCallLost k
