use Rattle.rdm_findings.specs.DeviceText.{device_finding}
use Rattle.rdm_findings.proofs.TextLemmas.{lines_next}
use Rattle.rdm_findings.proofs.device_text.write_devices.Goals as goal

pub devices-preserved : goal.devices-preserved
devices-preserved c =
    lines_next (device_finding c.args.form c.args.facts.now c.args.misreads.now c.args.heard.now c.args.acked.now)
    c.args.found.now
    c.devices.device-index c.device-item.result c.args.text.now.items c.devices.text.items
    c.write_device.new.text.items c.devices-test.true c.device-item.is c.devices.invariant
    c.in_ok-write_device.ensures
