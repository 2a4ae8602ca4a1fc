use Rattle.rdm_explain.proofs.GarbledLemmas.{garbled_dishonest}
use Rattle.rdm_explain.proofs.GarbledOverLemmas.{garbled_dishonest_over}
use Rattle.rdm_explain.proofs.laws.garbled_is_not_honest.Goals as goal

pub returns : goal.returns
returns c = record { fixed = garbled_dishonest; changing = garbled_dishonest_over }
