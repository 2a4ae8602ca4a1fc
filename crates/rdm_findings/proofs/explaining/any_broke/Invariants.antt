use Rattle.std.proofs.Common.{◌≡◌, drop}
use Rattle.rdm_findings.specs.FindingText.{any_broke}
use Rattle.rdm_findings.proofs.explaining.any_broke.Given as goal

abbrev pub invariant-loop-device : goal.invariant-loop-device
invariant-loop-device l = any_broke l.devices ≡ any_broke (drop l.device-index l.devices)
