use Rattle.std.proofs.Common.{◌≡◌, ◌++◌, take}
use Rattle.rdm_reports.specs.SessionReport.{numbered}
use Rattle.rdm_reports.specs.OpeningText.{element, device_element}
use Rattle.rdm_reports.proofs.opening_text.write_each_device.Given as goal

abbrev pub invariant-devices : goal.invariant-devices
invariant-devices l =
    l.text.items ≡ l.initial.text.items ++ numbered (element device_element) 0 (take l.index l.devices)
