use Rattle.std.proofs.Common.{◌≡◌, true, take}
use Rattle.std.specs.List.{AllByRecursion}
use Rattle.rdm_wire.specs.declared.device.Device.{Device}
use Rattle.rdm_explain.specs.body.Trees.{in_tree}
use Rattle.rdm_explain.proofs.reported.first_other.Given as goal

abbrev pub invariant-loop-device : goal.invariant-loop-device
invariant-loop-device l =
    AllByRecursion (λ (d : Device). in_tree l.uids d.uid ≡ true) (take l.device-index l.devices)
