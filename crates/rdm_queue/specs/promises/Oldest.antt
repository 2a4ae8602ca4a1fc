-- A client's oldest outcome, by reference.
use Rattle.std.specs.Prelude.{Bool, false}
use Rattle.rdm_log.specs.declared.outcome.Outcome.{Outcome}
use Rattle.rdm_log.specs.declared.outcome.OutcomeKind.{OutcomeKind}
use Rattle.rdm_log.specs.declared.outcome.OutcomeKind.TheVariants as kinds
use Rattle.rdm_log.specs.promises.Outcomes.{request_outcome, discovery_outcome}
use Rattle.rdm_queue.specs.declared.oldest.Oldest.{Oldest}
use Rattle.rdm_queue.specs.declared.oldest.Oldest.TheVariants as shown

-- the outcome that it shows, as a collect gives it
abbrev pub outcome_shown : Oldest → Outcome
outcome_shown (shown.Request number done flag) = request_outcome (number, done.now)
outcome_shown (shown.Discovery end set) = discovery_outcome end set.now

abbrev pub kind_shown : Oldest → OutcomeKind
kind_shown (shown.Request number done flag) = kinds.Request
kind_shown (shown.Discovery end set) = kinds.Discovery

-- whether it says that the answer may lack its first parts
abbrev pub flag_shown : Oldest → Bool
flag_shown (shown.Request number done flag) = flag
flag_shown (shown.Discovery end set) = false
