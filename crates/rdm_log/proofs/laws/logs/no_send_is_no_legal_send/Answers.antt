use Rattle.rdm_log.proofs.LogLemmas.KeepsLegal.{no_send_legal, legal_no_send}
use Rattle.rdm_log.proofs.laws.logs.no_send_is_no_legal_send.Goals as goal

pub returns : goal.returns
returns c = λ o h legal. (no_send_legal o h, legal_no_send o h legal)
