-- All that is promised of a legal log.
use Rattle.rdm_log.proofs.Common.{Opening, Entry, Legal}
use Rattle.std.specs.Prelude.{List}
use Rattle.rdm_log.specs.promises.Promised.{LegalPromised}
use Rattle.rdm_log.proofs.PromiseLemmas.OneResult.{one_result}
use Rattle.rdm_log.proofs.PromiseLemmas.OwnRequests.{own_requests}
use Rattle.rdm_log.proofs.PromiseLemmas.OwnAnswers.{own_answers}
use Rattle.rdm_log.proofs.PromiseLemmas.InOrder.{in_order}
use Rattle.rdm_log.proofs.PromiseLemmas.FullRefuses.{full_refuses}
use Rattle.rdm_log.proofs.PromiseLemmas.NothingAfterClose.{after_close}
use Rattle.rdm_log.proofs.PromiseLemmas.OwnDiscoveries.{discoveries_promised}

pub promised : (o : Opening) (h : List Entry) → Legal o h → LegalPromised o h
promised o h legal = record {
  one_result = one_result o h legal;
  own_requests = own_requests o h legal;
  own_answers = own_answers o h legal;
  in_order = in_order o h legal;
  full_refuses = full_refuses o h legal;
  nothing_after_close = after_close o h legal;
  discoveries = discoveries_promised o h legal;
}
