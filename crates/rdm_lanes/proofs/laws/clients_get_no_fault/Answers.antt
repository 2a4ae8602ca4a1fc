use Rattle.rdm_lanes.proofs.SceneLemmas.{gets_no_fault, gets_none_by_default}
use Rattle.rdm_lanes.proofs.laws.clients_get_no_fault.Goals as goal

pub returns-clause-enough : goal.returns-clause-enough
returns-clause-enough g c = gets_no_fault

pub returns-clause-by_default : goal.returns-clause-by_default
returns-clause-by_default g c = gets_none_by_default
