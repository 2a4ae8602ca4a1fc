use Rattle.rdm_lanes.proofs.SceneLemmas.{gets_changing}
use Rattle.rdm_lanes.proofs.laws.clients_get_no_stranger.Goals as goal

pub returns : goal.returns
returns g c = gets_changing
