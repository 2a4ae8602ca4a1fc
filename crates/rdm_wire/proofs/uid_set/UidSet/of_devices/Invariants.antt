use Rattle.std.proofs.Common.{◌≡◌, take}
use Rattle.rdm_wire.specs.Devices.{uids_of}
use Rattle.rdm_wire.proofs.uid_set.UidSet.of_devices.Given as goal

abbrev pub invariant-loop-device : goal.invariant-loop-device
invariant-loop-device l = l.uids.items ≡ uids_of (take l.device-index l.devices)
