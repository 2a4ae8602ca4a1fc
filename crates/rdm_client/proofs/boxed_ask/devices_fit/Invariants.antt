-- the devices before this one fit
use Rattle.std.specs.List.{AllWithin}
use Rattle.rdm_client.specs.Callbacks.{DeviceFits}
use Rattle.rdm_client.proofs.boxed_ask.devices_fit.Given as goal

abbrev pub invariant-devices : goal.invariant-devices
invariant-devices l = AllWithin DeviceFits l.devices 0 l.device-index
