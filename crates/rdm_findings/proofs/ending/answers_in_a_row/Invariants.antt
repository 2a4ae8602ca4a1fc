use Rattle.std.proofs.Common.{◌≡◌, ◌≤◌, drop}
use Rattle.std.specs.Prelude.{fold}
use Rattle.rdm_agent.specs.Cause.{answered_again, answers_in_a_row}
use Rattle.rdm_explain.specs.Exchanges.{seen_all}
use Rattle.rdm_findings.proofs.ending.answers_in_a_row.Given as goal

abbrev pub invariant-loop-exchange : goal.invariant-loop-exchange
invariant-loop-exchange l =
    (answers_in_a_row l.uid (seen_all l.exchanges)
    ≡ fold (λ n e. answered_again l.uid n e.asked e.heard) l.times (seen_all (drop l.exchange-index l.exchanges)))
    × (l.times ≤ l.exchange-index)
