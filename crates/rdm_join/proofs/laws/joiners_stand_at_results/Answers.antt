use Rattle.rdm_join.proofs.StandingLemmas.{open_exactly, head_at_result, data_at_result}
use Rattle.rdm_join.proofs.laws.joiners_stand_at_results.Goals as goal

pub returns : goal.returns
returns c = record { is_open = open_exactly; head = head_at_result; joined = data_at_result }
