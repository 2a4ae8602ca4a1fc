use Rattle.std.proofs.Common.{◌≡◌, ◌++◌, arith, rules}
use Rattle.rdm_reports.specs.OpeningText.{element, device_element}
use Rattle.rdm_reports.proofs.NumberedLemmas.{numbered_next}
use Rattle.rdm_reports.proofs.opening_text.write_each_device.Goals as goal

pub devices-preserved : goal.devices-preserved
devices-preserved c =
    let grows : c.write_device_at.new.text.items ≡ c.devices.text.items
    ++ element device_element c.devices.index c.index-devices-index.result = search rules in
    numbered_next (element device_element) c.args.devices.now c.devices.index c.index-devices-index.result
    c.args.text.now.items c.devices.text.items c.write_device_at.new.text.items (omega arith)
    c.index-devices-index.is c.devices.invariant grows
