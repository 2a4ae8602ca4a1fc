use Rattle.std.proofs.Common.{◌≡◌, ◌++◌, take}
use Rattle.std.specs.Prelude.{flat_map}
use Rattle.rdm_findings.specs.DeviceText.{device_finding}
use Rattle.rdm_findings.proofs.device_text.write_devices.Given as goal

abbrev pub invariant-devices : goal.invariant-devices
invariant-devices l =
    l.text.items ≡ l.initial.text.items
    ++ flat_map (device_finding l.form l.facts l.misreads l.heard l.acked) (take l.device-index l.found)
