use Rattle.rdm_line.proofs.HonestRuns.{honest_run}
use Rattle.rdm_line.proofs.laws.simulated_line_is_honest.Goals as goal

pub returns : goal.returns
returns c = honest_run
