-- What a worker has to do in its turn.
use Rattle.std.specs.Prelude.{◌≡◌, ◌≢◌, ℕ, true, List, [], Some, None, Ok}
use Rattle.rdm_log.specs.declared.entry.Entry.{Entry}
use Rattle.rdm_log.specs.log.LogState.{LogState, is_full_log}
use Rattle.rdm_log.specs.promises.Blocks.{TakeLogs}
use Rattle.rdm_locked.specs.declared.turn.Turn.{Turn}
use Rattle.rdm_locked.specs.declared.turn.Turn.TheVariants as turns

-- A frame is taken. Or none may be sent, while some client that joined hasn't left, or once all have. Or the log is
-- full, and then no frame is taken.
abbrev pub TurnLogs : LogState → ℕ → ℕ → Turn → List Entry → Type 0
TurnLogs k joined left (turns.Exchange frame) block = TakeLogs k (Ok (Some frame)) block
TurnLogs k joined left turns.Nothing block = TakeLogs k (Ok None) block × (left ≢ joined)
TurnLogs k joined left turns.AllLeft block = TakeLogs k (Ok None) block × (left ≡ joined)
TurnLogs k joined left turns.LogFull block = (is_full_log k ≡ true) × (block ≡ [])
