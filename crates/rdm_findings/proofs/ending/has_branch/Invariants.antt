use Rattle.std.proofs.Common.{◌≡◌, drop}
use Rattle.rdm_findings.specs.Ends.{has_branch}
use Rattle.rdm_findings.proofs.ending.has_branch.Given as goal

abbrev pub invariant-loop-exchange : goal.invariant-loop-exchange
invariant-loop-exchange l = has_branch l.exchanges ≡ has_branch (drop l.exchange-index l.exchanges)
