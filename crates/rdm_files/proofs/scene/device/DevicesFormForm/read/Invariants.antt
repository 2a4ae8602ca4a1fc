use Rattle.rdm_files.proofs.DeviceForms.{Ordered}
use Rattle.rdm_files.proofs.scene.device.DevicesFormForm.read.Given as goal

abbrev pub invariant-devices : goal.invariant-devices
invariant-devices l = Ordered l.values.items l.i l.devices
