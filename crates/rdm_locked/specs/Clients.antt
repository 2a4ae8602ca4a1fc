-- What a log says of one client's calls, and what a client knows of them.
use Rattle.std.specs.Prelude.{◌≡◌, ◌<◌, ℕ, true, List, [], ◌∷◌, ◌++◌, map, filter, filter_map, option_map}
use Rattle.std.specs.Prelude.{eqb, length, Some, None, Result, Ok, Err}
use Rattle.std.specs.List.{All, IsDistinct, list_any}
use Rattle.rdm_log.specs.declared.entry.ClientId.{ClientId}
use Rattle.rdm_log.specs.declared.entry.Entry.{Entry}
use Rattle.rdm_log.specs.declared.entry.Entry.TheVariants.{Collect}
use Rattle.rdm_log.specs.declared.fault.WorkFault.{WorkFault}
use Rattle.rdm_log.specs.declared.fault.WorkFault.TheVariants as work_faults
use Rattle.rdm_log.specs.declared.outcome.Outcome.{Outcome}
use Rattle.rdm_log.specs.declared.outcome.Outcome.TheVariants as outcomes
use Rattle.rdm_client.specs.declared.told.Collected.{Collected}
use Rattle.rdm_client.specs.declared.told.Collected.TheVariants as collected
use Rattle.rdm_log.specs.declared.work.Work.{Work}
use Rattle.rdm_log.specs.log.LogState.{LogState}
use Rattle.rdm_log.specs.promises.Blocks.{work_accepted, work_refused}
use Rattle.rdm_log.specs.promises.EventsHeadline.{collected_outcomes}
use Rattle.rdm_log.specs.promises.Outcomes.{OutcomeValue, outcome_value}
use Rattle.rdm_locked.specs.Calls.{is_call_of}
use Rattle.rdm_locked.specs.declared.history.LoggedCall.{LoggedCall}
use Rattle.rdm_locked.specs.declared.share.CallShare.{CallShare}

-- the calls of client c in a log, in order
unfoldable pub calls_of : ℕ → List Entry → List Entry
calls_of c h = filter (is_call_of c) h

-- a call without an outcome
abbrev pub called : Entry → LoggedCall
called e = record { entry = e; outcome = None }

-- a collect of this outcome
abbrev pub got : ClientId → Outcome → LoggedCall
got c outcome = record { entry = Collect c; outcome = Some outcome }

-- the number, or the fault in what is returned
abbrev pub with_fault : {E : Type 0} → Result ℕ E → (E → WorkFault) → Result ℕ WorkFault
with_fault (Ok n) fault = Ok n
with_fault (Err e) fault = Err (fault e)

-- what a submit or discover with this answer leaves in the log: nothing if the log is full
abbrev pub logged : ClientId → Work → Result ℕ WorkFault → List LoggedCall
logged c work (Ok n) = called (work_accepted c n work) ∷ []
logged c work (Err work_faults.LogFull) = []
logged c work (Err fault) = called (work_refused c work fault) ∷ []

-- the entries of these calls
abbrev pub entries_of : List LoggedCall → List Entry
entries_of made = map (λ m. m.entry) made

-- the outcomes that these calls got
abbrev pub outcomes_of : List LoggedCall → List OutcomeValue
outcomes_of made = filter_map (λ m. option_map outcome_value m.outcome) made

-- These calls are exactly those of client c in the log, in order, each once. What they got are exactly the outcomes
-- that the log has for the client, in order, each once, but those that it hasn't collected.
pub record Agrees (c : ℕ) (k : LogState) (made : List LoggedCall) : Type 0 where
  pub calls_are : entries_of made ≡ calls_of c k.entries
  pub got_are : outcomes_of made ≡ collected_outcomes k.opening c k.entries k.entries

-- the outcome with this number that a callback was called with
abbrev pub outcome_told : ℕ → Collected → Outcome
outcome_told n (collected.Request told) = outcomes.Request (Some n) told.done
outcome_told n (collected.Ask told) = outcomes.Discovery (Some n) told.done

-- a client collected what a callback was called with
pub record GotTold (c : ClientId) (told : Collected) (before after : List LoggedCall) : Type 0 where
  pub number : ℕ
  pub is : after ≡ before ++ got c (outcome_told number told) ∷ []

module _ {L : Type 0} where
  -- the client whose share it is
  abbrev pub client_of : CallShare L → ℕ
  client_of s = s.history.index

  -- what the client called and got
  abbrev pub made_by : CallShare L → List LoggedCall
  made_by s = s.history.items

  -- Each client's calls and outcomes are the log's. No two shares are of one client, and each client has one.
  pub record AllAgree (k : LogState) (shares : List (CallShare L)) : Type 0 where
    pub each : All (λ s. Agrees (client_of s) k (made_by s)) shares
    pub apart : IsDistinct eqb (map client_of shares)
    pub all : (c : ℕ) → c < length shares → list_any (eqb c) (map client_of shares) ≡ true
