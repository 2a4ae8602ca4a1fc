-- Outcomes on their way to a client, and those that a log has for it.
use Rattle.std.specs.Prelude.{◌≡◌, ℕ, List, ◌++◌, map, Option, Some}
use Rattle.rdm_log.specs.declared.entry.Opening.{Opening}
use Rattle.rdm_log.specs.declared.entry.Entry.{Entry}
use Rattle.rdm_log.specs.declared.outcome.Outcome.{Outcome}
use Rattle.rdm_log.specs.declared.outcome.Outcome.TheVariants as outcomes
use Rattle.rdm_log.specs.log.Clients.{uncollected}
use Rattle.rdm_log.specs.promises.Outcomes.{OutcomeValue, outcome_value, outcome_of, told}
use Rattle.rdm_lanes.specs.declared.ring_outcome.RingOutcome.{RingOutcome}
use Rattle.rdm_lanes.specs.declared.ring_outcome.RingOutcome.TheVariants.{Request, Discovery}

-- the outcome in an item of a ring
abbrev pub outcome_in : RingOutcome → Outcome
outcome_in (Request number done) = outcomes.Request number done
outcome_in (Discovery number done) = outcomes.Discovery number done

-- as its client sees it
abbrev pub value_in : RingOutcome → OutcomeValue
value_in item = outcome_value (outcome_in item)

-- the outcomes in these items of a ring, as their client sees them
unfoldable pub values_in : List RingOutcome → List OutcomeValue
values_in items = map value_in items

-- the outcomes that a log has for client c, in order: one for each Finish, Answer and refusal by a close
unfoldable pub told_values : Opening → ℕ → List Entry → List (Option OutcomeValue)
told_values o c h = map (outcome_of h) (told o c h)

-- those of them that client c hasn't collected
unfoldable pub uncollected_values : Opening → ℕ → List Entry → List (Option OutcomeValue)
uncollected_values o c h = map (outcome_of h) (uncollected o c h)

-- these outcomes, and then those that aren't collected, are all that the log has for client c
abbrev pub TellsAll : Opening → ℕ → List Entry → List OutcomeValue → Type 0
TellsAll o c h values = map (λ (v : OutcomeValue). Some v) values ++ uncollected_values o c h ≡ told_values o c h
