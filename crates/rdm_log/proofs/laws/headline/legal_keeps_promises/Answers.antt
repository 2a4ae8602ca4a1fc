use Rattle.rdm_log.proofs.PromiseLemmas.Promises.{promised}
use Rattle.rdm_log.proofs.PromiseLemmas.LogInBoundLemmas.{promised_in_bound}
use Rattle.rdm_log.proofs.laws.headline.legal_keeps_promises.Goals as goal

pub returns : goal.returns
returns c = record { legal = promised; in_bound = promised_in_bound }
