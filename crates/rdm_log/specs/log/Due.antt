-- What is due: the Finishes and Answers that have to come before any other entry.
use Rattle.std.specs.Prelude.{◌≡◌, ◌≢◌, ℕ, ◌<◌, Bool, true, false, List, [], length, None, ◌==◌, MatchOption}
use Rattle.std.specs.List.{AllByRecursion, list_any}
use Rattle.rdm_wire.specs.Honest.Heard.{Failed}
use Rattle.rdm_agent.specs.Certificate.{Certificate}
use Rattle.rdm_agent.specs.Cause.{IsCorruptBy, AllReported}
use Rattle.rdm_log.specs.declared.entry.Opening.{Opening}
use Rattle.rdm_log.specs.declared.entry.Entry.{Entry}
use Rattle.rdm_log.specs.log.Entries.{answers, result}
use Rattle.rdm_log.specs.log.History.{awaited, is_closed, unfinished, unanswered}
use Rattle.rdm_log.specs.log.Runs.{open_run, served, run_exchanges, run_devices, run_kind, known_at_run}

-- whether the discovery with this number has an Answer
abbrev pub has_answer : ℕ → List Entry → Bool
has_answer n h = list_any (λ b. b.number == n) (answers h)

-- all discoveries that a run serves have an Answer
abbrev pub AllAnswered : ℕ → List Entry → Type 0
AllAnswered r h = AllByRecursion (λ a. has_answer a.number h ≡ true) (served r h)

-- a run is done: its exchanges have the certificate for the devices that it found
abbrev pub IsDone : Opening → List Entry → ℕ → Type 0
IsDone o h r = Certificate (run_kind r h) (known_at_run o r h) (run_exchanges r h) (run_devices r h)

-- a run goes on: nothing that came has ended it, and its budget isn't used up
pub record GoesOn (o : Opening) (h : List Entry) (r : ℕ) : Type 0 where
  pub no_failure : AllByRecursion (λ e. e.heard ≢ Failed) (run_exchanges r h)
  pub not_corrupt : (u : ℕ) → IsCorruptBy o.search u (run_exchanges r h) → ⊥
  pub all_reported : AllReported (run_exchanges r h)
  pub in_budget : length (run_exchanges r h) < o.budget
  pub not_done : IsDone o h r → ⊥

-- no Finish and no Answer is due
pub record NothingDue (o : Opening) (h : List Entry) : Type 0 where
  -- no request's result is decided
  pub results_open : AllByRecursion (λ a. result a.number h ≡ None) (unfinished h)
  -- a run that some Answer names has answered all that it serves
  pub runs_answered : AllByRecursion (λ b. AllAnswered b.run h) (answers h)
  -- a run that no Answer names goes on
  pub run_goes_on : MatchOption (open_run h) (Unit {0}) (GoesOn o h)
  -- once the queue is closed and no reply is awaited, all requests are finished and all discoveries answered
  pub all_closed : is_closed o h ≡ true → awaited h ≡ false → (unfinished h ≡ []) × (unanswered h ≡ [])
