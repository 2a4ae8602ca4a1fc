-- Which entries of a log are clients' calls, and which refusals a client counts.
use Rattle.std.specs.Prelude.{ℕ, Bool, true, false, List, length, filter, ◌==◌, Some, Result, Ok, Err}
use Rattle.rdm_log.specs.declared.entry.Entry.{Entry}
use Rattle.rdm_log.specs.declared.entry.Entry.TheVariants.{Refuse, Accept, Ask, Collect}
use Rattle.rdm_log.specs.declared.fault.WorkFault.{WorkFault}
use Rattle.rdm_log.specs.declared.fault.WorkFault.TheVariants as work_faults
use Rattle.rdm_log.specs.promises.Outcomes.{is_client}

-- an accepted request, an accepted discovery, a collected outcome, or a refusal of a client's call; the refusal of a
-- join has no client
abbrev pub is_call : Entry → Bool
is_call (Accept c n request) = true
is_call (Ask c n kind) = true
is_call (Collect c) = true
is_call (Refuse (Some c) call cause) = true
is_call _ = false

-- whether an entry is a call of client c: an accepted request or discovery, a refused one, or a collected outcome
abbrev pub is_call_of : ℕ → Entry → Bool
is_call_of c (Accept d n request) = c == d.0
is_call_of c (Ask d n kind) = c == d.0
is_call_of c (Refuse d call cause) = is_client c d
is_call_of c (Collect d) = c == d.0
is_call_of c _ = false

-- how many of a log's entries are clients' calls
unfoldable pub count_calls : List Entry → ℕ
count_calls h = length (filter is_call h)

-- how many calls in the log a refused submit or discover is: one, or none if the log was full
abbrev pub refused_calls : WorkFault → ℕ
refused_calls work_faults.LogFull = 0
refused_calls _ = 1

-- how many calls in the log a submit or discover with this answer is
abbrev pub calls_logged : Result ℕ WorkFault → ℕ
calls_logged (Ok n) = 1
calls_logged (Err fault) = refused_calls fault
