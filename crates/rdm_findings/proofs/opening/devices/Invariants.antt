use Rattle.std.proofs.Common.{All}
use Rattle.rdm_findings.specs.SameLines.{FitsDevice}
use Rattle.rdm_findings.proofs.opening.devices.Given as goal

abbrev pub invariant-loop-item : goal.invariant-loop-item
invariant-loop-item l = All FitsDevice l.devices
