use Rattle.rdm_explain.proofs.HonestLemmas.{stray_dishonest}
use Rattle.rdm_explain.proofs.HonestOverLemmas.{stray_dishonest_over}
use Rattle.rdm_explain.proofs.laws.stray_is_not_honest.Goals as goal

pub returns : goal.returns
returns c = record { fixed = stray_dishonest; changing = stray_dishonest_over }
