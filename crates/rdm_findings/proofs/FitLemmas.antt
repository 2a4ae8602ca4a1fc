-- Lists in which each number fits its field, and one more.
use Rattle.std.proofs.Common.{Bool, true, false, nat_lt, List, [], ◌∷◌, All}
use Rattle.std.specs.Prelude.{◌==◌, if◌then◌else◌}
use Rattle.std.specs.List.{AllByRecursion}
use Rattle.std.proofs.lemmas.List.Elements.{All-from_recursion, recursion_from_All}
use Rattle.rdm_wire.specs.Devices.{with_device}
use Rattle.rdm_wire.specs.declared.device.Device.{Device}
use Rattle.rdm_findings.specs.SameLines.{FitsDevice}

each_with : (d : Device) (ds : List Device) → FitsDevice d → AllByRecursion FitsDevice ds
    → AllByRecursion FitsDevice (with_device d ds)
each_with d [] own each = (own, tt)
each_with d (e ∷ ds) own each = by_test (nat_lt d.uid e.uid) (d.uid == e.uid) (each_with d ds own each.1)
  where
    by_test : (b same : Bool) → AllByRecursion FitsDevice (with_device d ds) → AllByRecursion FitsDevice
        (if b then d ∷ e ∷ ds else (if same then e ∷ ds else e ∷ with_device d ds))
    by_test true same rest = (own, each)
    by_test false true rest = each
    by_test false false rest = (each.0, rest)

-- a set of devices, and one more
pub more_fit : (d : Device) (ds : List Device) → FitsDevice d → All FitsDevice ds → All FitsDevice (with_device d ds)
more_fit d ds own each = All-from_recursion FitsDevice (with_device d ds)
    (each_with d ds own (recursion_from_All FitsDevice ds each))
