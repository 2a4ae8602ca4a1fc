-- What a whole session in threads returns.
use Rattle.std.specs.Prelude.{◌≡◌, ◌≤◌, ℕ, List, length}
use Rattle.rdm_client.specs.declared.worker_end.WorkerEnd.TheVariants.{Turns}
use Rattle.rdm_line.specs.Events.{Exchange}
use Rattle.rdm_log.specs.declared.config.Setup.{Setup}
use Rattle.rdm_lanes.specs.declared.views.history.ViewHistory.{Ghosts}
use Rattle.rdm_lanes.specs.declared.session.together.LanesEnd.{LanesEnd}
use Rattle.rdm_lanes.specs.Ended.{IsEnded}
use Rattle.rdm_lanes.specs.Ends.{AllHaveSlots}
use Rattle.rdm_lanes.specs.Lines.{exchange_count}
use Rattle.rdm_lanes.specs.Sessions.{SessionOver}

module _ {J B X C A : Type 0} {h : Ghosts J} where
  -- The end of a session with this set-up, on this line, whose log has this capacity. Its clients have these queue
  -- depths, and both rings of each have this many slots. `SessionOver` says what its log has, and `IsEnded` how the
  -- clients, the log and the views agree. The worker made at most this many turns, and all of them if it ended with
  -- Turns. With no turns to make, it ended with Turns. The log has at most as many exchanges as turns were made.
  pub record IsSessionEnd (step : X → Exchange → X → Type 0) (setup : Setup) (room slots : ℕ) (places : List ℕ)
      (line : X) (turns : ℕ) (end : LanesEnd J B X C A h) : Type 0 where
    pub session : SessionOver step setup room places line end.line end.session
    pub ended : IsEnded (length places) end
    pub slots_are : AllHaveSlots slots end.ends.items
    pub in_turns : (end.turns ≤ turns) × (turns ≡ 0 → end.worker ≡ Turns)
    pub all_turns : end.worker ≡ Turns → end.turns ≡ turns
    pub exchanges : exchange_count end.session ≤ end.turns
