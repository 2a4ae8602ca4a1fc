use Rattle.std.proofs.Common.{All}
use Rattle.rdm_findings.specs.SameLines.{Has48Bits}
use Rattle.rdm_findings.proofs.opening.known.Given as goal

abbrev pub invariant-loop-item : goal.invariant-loop-item
invariant-loop-item l = All Has48Bits l.uids
