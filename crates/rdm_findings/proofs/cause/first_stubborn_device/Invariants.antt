use Rattle.std.proofs.Common.{◌≡◌, drop}
use Rattle.rdm_explain.specs.Rules.{uids_of_findings}
use Rattle.rdm_findings.specs.Explained.{stubborn_in}
use Rattle.rdm_findings.proofs.cause.first_stubborn_device.Given as goal

abbrev pub invariant-loop-device : goal.invariant-loop-device
invariant-loop-device l =
    stubborn_in l.failure l.exchanges (uids_of_findings l.devices)
    ≡ stubborn_in l.failure l.exchanges (uids_of_findings (drop l.device-index l.devices))
