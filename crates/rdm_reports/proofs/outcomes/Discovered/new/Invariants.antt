use Rattle.std.proofs.Common.{◌≡◌, take}
use Rattle.rdm_wire.specs.Devices.{uids_of}
use Rattle.rdm_reports.proofs.outcomes.Discovered.new.Given as goal

abbrev pub invariant-devices : goal.invariant-devices
invariant-devices l = l.uids.items ≡ uids_of (take l.device-index l.told.done.set)
