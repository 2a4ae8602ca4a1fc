use Rattle.rdm_agent.proofs.CertificateEnds.{certificate_ends_by}
use Rattle.rdm_agent.proofs.laws.certificate_is_the_end.Goals as goal

pub returns : goal.returns
returns c = certificate_ends_by
