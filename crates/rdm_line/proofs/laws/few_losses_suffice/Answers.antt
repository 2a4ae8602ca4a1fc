use Rattle.rdm_line.proofs.LossLemmas.{few_losses}
use Rattle.rdm_line.proofs.laws.few_losses_suffice.Goals as goal

pub returns : goal.returns
returns c = λ s new steps. few_losses s new steps
