use Rattle.rdm_line.proofs.KeepsLemmas.{made_run}
use Rattle.rdm_line.proofs.laws.exchanges_are_steps.Goals as goal

pub returns : goal.returns
returns c = made_run
