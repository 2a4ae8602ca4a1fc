use Rattle.std.proofs.Common.{◌≡◌, drop}
use Rattle.rdm_findings.specs.Explained.{stubborn_in}
use Rattle.rdm_findings.proofs.cause.first_stubborn.Given as goal

abbrev pub invariant-loop-uid : goal.invariant-loop-uid
invariant-loop-uid l =
    stubborn_in l.failure l.exchanges l.uids ≡ stubborn_in l.failure l.exchanges (drop l.uid-index l.uids)
