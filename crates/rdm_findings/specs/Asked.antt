-- What a session's log shows of the kind of its next run. A run serves all earlier discoveries without an answer. If
-- any of them is full, it is full, otherwise incremental.
use Rattle.std.specs.Prelude.{ℕ, ◌+◌, ◌-◌, ◌^◌, Bool, false, ◌||◌, not, nat_lt, Option, Some, None, ◌==◌, if◌then◌else◌}
use Rattle.rdm_agent.specs.declared.kind.Kind.{Kind}
use Rattle.rdm_agent.specs.declared.kind.Kind.TheVariants.{Full, Incremental}
use Rattle.rdm_findings.specs.declared.asks.Asks.{Asks}
use Rattle.rdm_findings.specs.declared.head.Start.{Start}
use Rattle.rdm_findings.specs.declared.head.Start.TheVariants.{At, Later, Unknown}
use Rattle.rdm_findings.specs.Starts.{has_start}

-- nothing is known
abbrev pub no_asks : Asks
no_asks = record { first = None; first_run = None; full = None; answered = None }

-- the log continues a session in which so many discoveries were asked for, and whose next run has this number
abbrev pub asks_from : ℕ → ℕ → Asks
asks_from ask run = record { first = Some ask; first_run = Some run; full = None; answered = None }

-- whether a discovery was answered, if the last one that was has this number: the order is that of their numbers
abbrev pub is_answered : ℕ → Option ℕ → Bool
is_answered n None = false
is_answered n (Some last) = not (nat_lt last n)

-- whether all discoveries before this one were answered
abbrev pub all_answered_before : Option ℕ → Option ℕ → Bool
all_answered_before None last = false
all_answered_before (Some n) last = (n == 0) || is_answered (n - 1) last

-- whether the log has the request of each discovery that waits for its answer
abbrev pub has_all_waiting : Asks → Bool
has_all_waiting a = all_answered_before a.first a.answered

-- whether this discovery waits for its answer
abbrev pub waits : Option ℕ → Option ℕ → Bool
waits None last = false
waits (Some n) last = not (is_answered n last)

-- whether a full discovery waits for its answer
abbrev pub full_waits : Asks → Bool
full_waits a = waits a.full a.answered

-- the kind of a run that begins now, if that is known
abbrev pub next_kind : Asks → Option Kind
next_kind a = if full_waits a then Some Full else (if has_all_waiting a then Some Incremental else None)

-- with which exchange the log begins to have a run, if it has the beginning of each that isn't below this one
abbrev pub start_by : ℕ → Option ℕ → Start
start_by r None = Unknown
start_by r (Some first) = if nat_lt r first then Later else At 0

-- the same, by what the log shows
abbrev pub start_of : ℕ → Asks → Start
start_of r a = start_by r a.first_run

-- the kind of a run whose first frame in the log comes now, if that is known
abbrev pub kind_of_run : ℕ → Asks → Option Kind
kind_of_run r a = if has_start (start_of r a) then next_kind a else None

-- the number that is there, or else this one
abbrev pub earlier : Option ℕ → ℕ → Option ℕ
earlier None n = Some n
earlier (Some first) n = Some first

-- the first number, or else the second
abbrev pub first_of_two : Option ℕ → Option ℕ → Option ℕ
first_of_two None second = second
first_of_two (Some first) second = Some first

-- the last full discovery, after another one
abbrev pub full_after : ℕ → Kind → Option ℕ → Option ℕ
full_after n Full full = Some n
full_after n Incremental full = full

-- a discovery was asked for. No run began before discovery 0, and runs are numbered from 1
abbrev pub after_ask : ℕ → Kind → Asks → Asks
after_ask n kind a = record {
  first = earlier a.first n;
  first_run = if n == 0 then earlier a.first_run 1 else a.first_run;
  full = full_after n kind a.full;
  answered = a.answered;
}

-- the number of the run after this one, which has ended. Run 0 never began, and no run comes after the last number
abbrev pub run_after : ℕ → Option ℕ
run_after r = if (r == 0) || (r == 2 ^ 64 - 1) then None else Some (r + 1)

-- a discovery was answered by this run. The runs after it begin in the log
abbrev pub after_answer : ℕ → ℕ → Asks → Asks
after_answer n r a = record a { answered = Some n; first_run = first_of_two a.first_run (run_after r) }

-- the log has a frame of a run. The runs after it begin in the log
abbrev pub after_run : ℕ → Asks → Asks
after_run r a = record a { first_run = earlier a.first_run r }
