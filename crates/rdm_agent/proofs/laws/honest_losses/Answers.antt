use Rattle.std.proofs.Common.{refl, [], ◌∷◌}
use Rattle.rdm_agent.specs.SampleRun.{sample_uid, lossy_run}
use Rattle.rdm_wire.proofs.NoisyLemmas.{honest_is_noisy}
use Rattle.rdm_agent.proofs.SampleHonest.{lossy_honest, five_branches_lost, five_mutes_lost}
use Rattle.rdm_agent.proofs.laws.honest_losses.Goals as goal

pub returns : goal.returns
returns c = record {
  up_to_four = lossy_honest;
  found = refl;
  five_branches = λ honest. five_branches_lost (honest_is_noisy (sample_uid ∷ []) (lossy_run 5 0) honest);
  five_mutes = five_mutes_lost;
}
