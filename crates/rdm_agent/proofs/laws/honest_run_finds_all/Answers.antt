use Rattle.rdm_agent.proofs.HonestRuns.{finds_all_by, finds_each_by}
use Rattle.rdm_agent.proofs.laws.honest_run_finds_all.Goals as goal

pub returns : goal.returns
returns c = record { all = finds_all_by; each = finds_each_by }
