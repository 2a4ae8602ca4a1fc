use Rattle.rdm_log.proofs.PromiseLemmas.Promises.{promised}
use Rattle.rdm_queue.proofs.promised.controllers_keep_promises.Goals as goal

pub returns : goal.returns
returns c = record { legal = λ o h s after. after.legal; promised = λ o h s after. promised o h after.legal }
