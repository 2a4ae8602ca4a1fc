-- What holds for a whole session with ring buffers.
use Rattle.std.specs.Prelude.{◌≡◌, ℕ, ◌≤◌, false, List, [], length}
use Rattle.rdm_line.specs.Events.{Exchange, Makes}
use Rattle.rdm_log.specs.declared.config.Setup.{Setup}
use Rattle.rdm_log.specs.log.Entries.{joins, exchanges}
use Rattle.rdm_log.specs.log.History.{awaited, is_closed, is_paused}
use Rattle.rdm_log.specs.log.Legal.{Legal}
use Rattle.rdm_log.specs.log.LogState.{LogState, opened}
use Rattle.rdm_log.specs.promises.Promised.{Promised}
use Rattle.rdm_lanes.specs.Calls.{calls_by}
use Rattle.rdm_lanes.specs.Operators.{switches}
use Rattle.rdm_lanes.specs.Lines.{NoCallLost}

-- A session over a line, from its start to its end. The log has the opening of this set-up, and this capacity. One
-- client joined with each of these queue depths, in order, and nobody else called anything. Nobody
-- paused, resumed or closed. At the end no reply is awaited, and the session is neither paused nor closed. The log is
-- legal and keeps all that clients are promised. No call was lost. The exchanges in the log are the line's steps, from
-- its value before to its value after. The line got each frame once, and the event that it returned was delivered.
pub record SessionOver {L : Type 0} (step : L → Exchange → L → Type 0) (setup : Setup) (room : ℕ) (places : List ℕ)
    (before after : L) (k : LogState) : Type 0 where
  pub opening_is : k.opening ≡ opened setup
  pub room_is : k.room ≡ room
  pub clients_are : joins k.entries ≡ places
  pub nobody_else : (c : ℕ) → length places ≤ c → calls_by c k.entries ≡ []
  pub legal : Legal k.opening k.entries
  pub answered : awaited k.entries ≡ false
  pub nothing_switched : switches k.entries ≡ []
  pub not_paused : is_paused k.opening k.entries ≡ false
  pub not_closed : is_closed k.opening k.entries ≡ false
  pub no_call_lost : NoCallLost k
  pub promised : Promised k
  pub steps : Makes L step before (exchanges k.entries) after
