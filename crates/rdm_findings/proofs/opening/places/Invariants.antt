use Rattle.std.proofs.Common.{All}
use Rattle.rdm_findings.specs.SameLines.{Has64Bits}
use Rattle.rdm_findings.proofs.opening.places.Given as goal

abbrev pub invariant-loop-item : goal.invariant-loop-item
invariant-loop-item l = All Has64Bits l.depths.items
