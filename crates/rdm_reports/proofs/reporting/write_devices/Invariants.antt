use Rattle.std.proofs.Common.{◌≡◌, ◌++◌, take}
use Rattle.std.specs.Prelude.{flat_map}
use Rattle.rdm_reports.specs.Report.{device_line}
use Rattle.rdm_reports.proofs.reporting.write_devices.Given as goal

abbrev pub invariant-devices : goal.invariant-devices
invariant-devices l = l.text.items ≡ l.initial.text.items ++ flat_map device_line (take l.device-index l.devices)
