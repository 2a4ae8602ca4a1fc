use Rattle.rdm_agent.proofs.HonestRuns.{finds_no_phantom_by}
use Rattle.rdm_agent.proofs.laws.no_phantom.Goals as goal

pub returns : goal.returns
returns c = finds_no_phantom_by
