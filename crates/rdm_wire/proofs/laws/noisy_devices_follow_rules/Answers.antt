use Rattle.rdm_wire.proofs.EachDevice.{noisy_to_each}
use Rattle.rdm_wire.proofs.laws.noisy_devices_follow_rules.Goals as goal

pub returns : goal.returns
returns c = noisy_to_each
