use Rattle.rdm_log.proofs.PromiseLemmas.OwnDiscoveries.{discoveries_promised}
use Rattle.rdm_log.proofs.laws.discoveries.legal_keeps_discoveries.Goals as goal

pub returns : goal.returns
returns c = discoveries_promised
