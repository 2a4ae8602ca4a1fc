use Rattle.rdm_scenes.proofs.SceneLemmas.{follow_the_devices}
use Rattle.rdm_scenes.proofs.laws.answers_follow_the_devices.Goals as goal

pub returns : goal.returns
returns c = follow_the_devices
