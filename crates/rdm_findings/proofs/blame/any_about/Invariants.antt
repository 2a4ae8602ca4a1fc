use Rattle.std.proofs.Common.{◌≡◌, drop}
use Rattle.rdm_findings.specs.Passing.{any_about}
use Rattle.rdm_findings.proofs.blame.any_about.Given as goal

abbrev pub invariant-loop-device : goal.invariant-loop-device
invariant-loop-device l = any_about l.uid l.devices ≡ any_about l.uid (drop l.device-index l.devices)
