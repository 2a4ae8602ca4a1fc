use Rattle.rdm_scenes.proofs.SceneLemmas.{are_the_devices}
use Rattle.rdm_scenes.proofs.laws.answers_are_the_devices.Goals as goal

pub returns : goal.returns
returns c = are_the_devices
