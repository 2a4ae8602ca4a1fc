use Rattle.std.proofs.Common.{◌≡◌, drop}
use Rattle.std.specs.List.{find}
use Rattle.rdm_findings.specs.Orders.{has_breach}
use Rattle.rdm_findings.proofs.order.first_broken.Given as goal

abbrev pub invariant-loop-device : goal.invariant-loop-device
invariant-loop-device l = find has_breach l.devices ≡ find has_breach (drop l.device-index l.devices)
