-- Which Answers may follow.
use Rattle.std.specs.Prelude.{◌≡◌, ◌≢◌, ℕ, true, false, List, [], Option, Some, None, ◌==◌, slice_get}
use Rattle.std.specs.List.{AllByRecursion, list_any}
use Rattle.rdm_agent.specs.Cause.{Cause}
use Rattle.rdm_agent.specs.declared.fault.AgentFault.{AgentFault}
use Rattle.rdm_agent.specs.declared.fault.AgentFault.TheVariants.{Aborted}
use Rattle.rdm_log.specs.declared.entry.Opening.{Opening}
use Rattle.rdm_log.specs.declared.entry.Entry.{Entry}
use Rattle.rdm_log.specs.log.Entries.{AskedDiscovery, answers}
use Rattle.rdm_log.specs.log.History.{awaited, is_closed, unfinished, unanswered}
use Rattle.rdm_log.specs.log.Runs.{served, run_exchanges}
use Rattle.rdm_log.specs.log.Due.{IsDone, GoesOn}
use Rattle.rdm_log.specs.log.MayFinish.{IsClosing}

-- a close ends a run that would have gone on
pub record IsAborted (o : Opening) (h : List Entry) (r : ℕ) : Type 0 where
  pub closed : is_closed o h ≡ true
  pub goes_on : GoesOn o h r

-- what an Answer says about a run: without fault, that it is done; with a fault, its cause, and that it isn't done
abbrev pub Shows : Opening → List Entry → ℕ → Option AgentFault → Type 0
Shows o h r None = IsDone o h r
Shows o h r (Some fault) = Cause o.search o.budget (IsAborted o h r) fault (run_exchanges r h) × (IsDone o h r → ⊥)

-- an Answer by a run that serves the discovery: no reply is awaited, the run has shown what the Answer says, and the
-- run's other Answers agree
pub record MayAnswerByRun (o : Opening) (h : List Entry) (n r : ℕ) (fault : Option AgentFault) : Type 0 where
  pub not_awaited : awaited h ≡ false
  pub serves : list_any (λ a. a.number == n) (served r h) ≡ true
  pub agrees : AllByRecursion (λ b. (b.run ≡ r) → b.fault ≡ fault) (answers h)
  pub shows : Shows o h r fault

-- an Answer with Aborted to a discovery that no run serves: a close ends what is left, and all requests are finished
pub record MayAnswerUnserved (o : Opening) (h : List Entry) (fault : Option AgentFault) : Type 0 where
  pub closing : IsClosing o h
  pub aborted : fault ≡ Some Aborted
  pub last : unfinished h ≡ []

-- the oldest unanswered discovery may be answered; run 0 means that no run was begun for it
pub record MayAnswer (o : Opening) (h : List Entry) (n r : ℕ) (fault : Option AgentFault) : Type 0 where
  pub asked : AskedDiscovery
  pub oldest : slice_get (unanswered h) 0 ≡ Some asked
  pub number : n ≡ asked.number
  pub by_run : r ≢ 0 → MayAnswerByRun o h n r fault
  pub unserved : r ≡ 0 → MayAnswerUnserved o h fault
