use Rattle.rdm_agent.proofs.Common.{Quick}
use Rattle.rdm_agent.proofs.BoundRuns.{ends_in_bound, ends_in_bound_by}
use Rattle.rdm_agent.proofs.laws.honest_run_ends.Goals as goal

pub returns : goal.returns
returns c = record { steady = ends_in_bound; quick = ends_in_bound_by Quick }
