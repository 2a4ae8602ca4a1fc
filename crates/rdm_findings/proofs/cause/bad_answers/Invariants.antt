use Rattle.std.proofs.Common.{◌≡◌, ◌+◌, ◌≤◌, drop}
use Rattle.rdm_findings.specs.BadAnswers.{bad_answers}
use Rattle.rdm_findings.proofs.cause.bad_answers.Given as goal

abbrev pub invariant-loop-exchange : goal.invariant-loop-exchange
invariant-loop-exchange l =
    (bad_answers l.uid l.exchanges ≡ l.bad + bad_answers l.uid (drop l.exchange-index l.exchanges))
    × (l.bad ≤ l.exchange-index)
