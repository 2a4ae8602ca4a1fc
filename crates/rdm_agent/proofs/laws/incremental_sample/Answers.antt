use Rattle.rdm_agent.proofs.SampleIncremental.{incremental_honest, incremental_certified, incremental_runs}
use Rattle.rdm_agent.proofs.laws.incremental_sample.Goals as goal

pub returns : goal.returns
returns c = record { honest = incremental_honest; certified = incremental_certified; ends = incremental_runs }
