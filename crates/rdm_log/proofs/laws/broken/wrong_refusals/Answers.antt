use Rattle.rdm_log.proofs.Common.{refl, none-some, joins, accepts, sends, cames, finishes, collectors, traded}
use Rattle.rdm_log.proofs.Common.{of_request, verdicts, result, asks, answers, has_begun, entries_before_run, last_run}
use Rattle.rdm_log.proofs.Common.{run_exchanges, awaited, is_closed, answers_to}
use Rattle.rdm_log.proofs.SampleLemmas.SampleLegal.{due_accept, due_closed}
use Rattle.rdm_log.proofs.laws.broken.wrong_refusals.Goals as goal

pub returns : goal.returns
unfolding joins accepts finishes collectors sends cames traded of_request verdicts result awaited is_closed answers_to
    asks answers has_begun entries_before_run last_run run_exchanges
returns c = record {
  accepted = λ may. let none = may.1 in cc;
  refused = (due_accept, refl);
  first_fault = (due_closed, refl);
  second_fault = λ may. let number = may.1 in cc;
  free = λ may. none-some 3 may.1;
}
