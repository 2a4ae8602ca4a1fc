use Rattle.rdm_wire.proofs.HonestOverLemmas.{trace-over}
use Rattle.rdm_wire.proofs.laws.one_set_is_a_case.Goals as goal

pub returns : goal.returns
returns c = trace-over
