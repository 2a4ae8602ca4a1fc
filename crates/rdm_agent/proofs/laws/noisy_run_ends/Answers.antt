use Rattle.rdm_agent.proofs.BoundRuns.{ends_in_noisy_bound}
use Rattle.rdm_agent.proofs.laws.noisy_run_ends.Goals as goal

pub returns : goal.returns
returns c = ends_in_noisy_bound
