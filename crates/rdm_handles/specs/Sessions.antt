-- The statuses of calls on a session that the session's own calls don't have.
use Rattle.std.specs.Prelude.{ℕ, ◌+◌, ◌^◌, length, nat_lt, if◌then◌else◌}
use Rattle.rdm_log.specs.log.History.{is_idle, reserved}
use Rattle.rdm_log.specs.log.LogState.{LogState, is_full_log}
use Rattle.rdm_handles.specs.Forms.{setup_status}
use Rattle.rdm_handles.specs.Packets.{first_of}
use Rattle.rdm_handles.specs.declared.forms.SetupForC.{SetupForC}
use Rattle.rdm_handles.specs.declared.status.TheConstants as status

-- the status of a number of entries that a log must be able to have
abbrev pub entries_status : ℕ → ℕ
entries_status entries = if nat_lt 1000000 entries then status.TOO_MANY_ENTRIES else status.DONE

-- the first fault of a setup with a log of this many entries
abbrev pub open_status : SetupForC → ℕ → ℕ
open_status setup entries = first_of (setup_status setup) (entries_status entries)

-- the status of a call that a full log refuses
abbrev pub full_status : LogState → ℕ
full_status k = if is_full_log k then status.LOG_FULL else status.DONE

-- the first fault of continuing with a new log, which would be full if it had fewer than three entries
abbrev pub rotate_status : LogState → ℕ → ℕ
rotate_status k entries =
    first_of (entries_status entries)
    (if nat_lt entries 3 then status.LOG_FULL else (if is_idle k.entries then status.DONE else status.NOT_IDLE))

-- the first fault of going on in memory for this many entries and one more: it must have capacity for those that are
-- reserved, and at most 2^62 entries in all may fit
abbrev pub drain_status : LogState → ℕ → ℕ
drain_status k entries =
    first_of (if nat_lt (entries + 1) (reserved k.opening k.entries) then status.LOG_FULL else status.DONE)
    (first_of (entries_status entries)
    (if nat_lt (2 ^ 62) (length k.entries + (entries + 1)) then status.LOG_FULL else status.DONE))
