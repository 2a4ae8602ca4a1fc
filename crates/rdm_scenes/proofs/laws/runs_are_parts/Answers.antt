use Rattle.rdm_scenes.proofs.PartLemmas.{run_part}
use Rattle.rdm_scenes.proofs.laws.runs_are_parts.Goals as goal

pub returns : goal.returns
returns c = λ o h r legal. run_part o h legal.each r
