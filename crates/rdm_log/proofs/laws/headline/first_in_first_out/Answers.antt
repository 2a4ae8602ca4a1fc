use Rattle.rdm_log.proofs.PromiseLemmas.InOrder.{in_order}
use Rattle.rdm_log.proofs.laws.headline.first_in_first_out.Goals as goal

pub returns : goal.returns
returns c = in_order
