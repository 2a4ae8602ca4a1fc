use Rattle.rdm_scenes.proofs.CalmLemmas.{faults_follow, follow_by_default}
use Rattle.rdm_scenes.proofs.laws.answers_have_no_fault.Goals as goal

pub returns : goal.returns
returns c = record { enough = faults_follow; by_default = follow_by_default }
