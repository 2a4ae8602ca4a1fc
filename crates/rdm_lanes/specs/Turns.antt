-- A worker's turns, as its log and its published views show them.
use Rattle.std.specs.Prelude.{◌≡◌, ◌≢◌, ◌⊎◌, ℕ, zero, suc, ◌+◌, List}
use mathlib.Core.List.{IsPrefix}
use Rattle.rdm_client.specs.declared.view.DeviceView.{DeviceView}
use Rattle.rdm_log.specs.declared.entry.Entry.{Entry}
use Rattle.rdm_log.specs.log.LogState.{LogState, grown}
use Rattle.rdm_log.specs.log.MaySend.{NoSend}
use Rattle.rdm_lanes.specs.Lines.{exchange_count}
use Rattle.rdm_lanes.specs.Views.{all_views}

-- One turn, after which these views are published. The log grew by these entries, perhaps by none. After it one more
-- exchange is made, or no frame may be sent, or not all views of the log are published.
pub record IsTurn (old new : LogState) (shown : List DeviceView) : Type 0 where
  pub block : List Entry
  pub grows : new ≡ grown old block
  pub did : (exchange_count new ≡ exchange_count old + 1)
      ⊎ (NoSend new.opening new.entries ⊎ (shown ≢ all_views new.entries))

-- This many turns in a row, from one log to another one. The views that are published are the first list before them,
-- and the second one after them. No view is ever withdrawn.
abbrev pub AreTurns : ℕ → LogState → List DeviceView → LogState → List DeviceView → Type 0
AreTurns zero old before new after = (new ≡ old) × (after ≡ before)
AreTurns (suc n) old before new after =
    (k : LogState) × (shown : List DeviceView) × AreTurns n old before k shown × IsTurn k new after
    × IsPrefix shown after
