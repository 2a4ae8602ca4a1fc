use Rattle.rdm_join.proofs.Determined.{meets, only}
use Rattle.rdm_join.proofs.ResultLemmas.{result_of-stays}
use Rattle.rdm_join.proofs.laws.result_is_determined.Goals as goal

pub returns : goal.returns
returns c = record { meets = meets; only = only; stays = result_of-stays }
