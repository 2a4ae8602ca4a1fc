use Rattle.rdm_log.proofs.Common.{◌≡◌, refl, ap, arith, same_Some, Accepted, joins, accepts, sends, cames, finishes}
use Rattle.rdm_log.proofs.Common.{traded, of_request, verdicts, result, asks, answers, has_begun, entries_before_run}
use Rattle.rdm_log.proofs.Common.{last_run, run_exchanges, awaited, is_closed, sample_request}
use Rattle.rdm_log.proofs.laws.broken.wrong_order.Goals as goal

pub returns : goal.returns
unfolding joins accepts finishes sends cames traded of_request verdicts result awaited is_closed asks answers has_begun
    entries_before_run last_run run_exchanges
returns c = record {
  first = record {
    accepted = record { client = 0; number = 0; request = sample_request };
    oldest = refl;
    number = refl;
    fits = (record { closed = refl; not_awaited = refl; runs_answered = refl }, refl, refl);
  };
  second = λ may. let first = same_Some (record { client = 0; number = 0; request = sample_request }) may.accepted
      may.oldest in let number : 0 ≡ may.accepted.number = ap (λ (a : Accepted). a.number) first in
      omega (arith, may.number);
  number = λ may. let n = may.2 in cc;
}
