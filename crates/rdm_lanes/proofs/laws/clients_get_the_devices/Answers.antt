use Rattle.rdm_lanes.proofs.SceneLemmas.{gets_devices}
use Rattle.rdm_lanes.proofs.laws.clients_get_the_devices.Goals as goal

pub returns : goal.returns
returns g c = gets_devices
