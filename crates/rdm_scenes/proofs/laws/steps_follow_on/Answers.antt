use Rattle.rdm_scenes.proofs.SceneLemmas.{makes_join}
use Rattle.rdm_scenes.proofs.laws.steps_follow_on.Goals as goal

pub returns : goal.returns
returns g c = λ a b d xs ys. makes_join _ xs ys a b d
