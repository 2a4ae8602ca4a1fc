use Rattle.rdm_log.proofs.PromiseLemmas.InOrder.{asks_in_order}
use Rattle.rdm_log.proofs.laws.discoveries.first_asked_first_answered.Goals as goal

pub returns : goal.returns
returns c = asks_in_order
