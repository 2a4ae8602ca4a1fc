use Rattle.rdm_agent.proofs.Runs.{ends_certified_by}
use Rattle.rdm_agent.proofs.laws.run_has_certificate.Goals as goal

pub returns : goal.returns
returns c = ends_certified_by
