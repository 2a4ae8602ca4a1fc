use Rattle.rdm_agent.proofs.HonestRuns.{finds_all_in_noise_by, finds_each_in_noise_by, finds_no_phantom_in_noise_by}
use Rattle.rdm_agent.proofs.laws.noisy_run_finds_all.Goals as goal

pub returns : goal.returns
returns c = record {
  all = finds_all_in_noise_by;
  each = finds_each_in_noise_by;
  no_phantom = finds_no_phantom_in_noise_by;
}
