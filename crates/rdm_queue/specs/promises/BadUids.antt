-- What a log says about the bad UIDs, those that its last run has set apart.
use Rattle.std.specs.Prelude.{◌≡◌, ℕ, Bool, false, List, [], map, Some}
use Rattle.std.specs.List.{AllByRecursion}
use Rattle.rdm_wire.specs.Honest.{Seen}
use Rattle.rdm_agent.specs.Machine.{AgentState, start_by, fed_all}
use Rattle.rdm_agent.specs.Cause.{WasBad}
use Rattle.rdm_log.specs.declared.entry.Opening.{Opening}
use Rattle.rdm_log.specs.declared.entry.Entry.{Entry}
use Rattle.rdm_log.specs.log.Runs.{last_run, next_run, run_kind, known_at_run, run_exchanges}

-- the agent of a run, after the replies that the log shows
abbrev pub agent_of_run : Opening → ℕ → List Entry → AgentState
agent_of_run o r h =
    fed_all (start_by o.search (run_kind r h) (known_at_run o r h) o.budget)
    (map (λ (e : Seen). e.heard) (run_exchanges r h))

-- no run has begun, in this log or an earlier one: runs are numbered from 1
abbrev pub IsBeforeRuns : Opening → List Entry → Type 0
IsBeforeRuns o h = next_run o h ≡ 1

-- These are the bad UIDs. Before the first run there are none. If the log has a run, they are those that its last one,
-- open or ended, has set apart and not found or silent since. Each of them, asked alone in that run, was answered by
-- bytes four times in a row
pub record AreBadUids (o : Opening) (h : List Entry) (us : List ℕ) : Type 0 where
  pub none : IsBeforeRuns o h → us ≡ []
  pub set_apart : (r : ℕ) → last_run h ≡ Some r → us ≡ (agent_of_run o r h).apart
  pub answered : (r : ℕ) → last_run h ≡ Some r → AllByRecursion (λ u. WasBad u (run_exchanges r h)) us

-- whether the same run gave up further UIDs
pub record HasMoreBadUids (o : Opening) (h : List Entry) (more : Bool) : Type 0 where
  pub none : IsBeforeRuns o h → more ≡ false
  pub given_up : (r : ℕ) → last_run h ≡ Some r → more ≡ (agent_of_run o r h).more
