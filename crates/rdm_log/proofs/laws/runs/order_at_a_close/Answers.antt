use Rattle.rdm_log.proofs.Common.{refl, joins, accepts, asks, sends, cames, finishes, answers, collectors, traded}
use Rattle.rdm_log.proofs.Common.{of_request, verdicts, result, awaited, is_paused, is_closed, answers_to, has_begun}
use Rattle.rdm_log.proofs.Common.{entries_before_run, last_run, run_exchanges}
use Rattle.rdm_log.proofs.SampleLemmas.FailedRuns.{may_abort_first, may_finish_then, may_answer_last}
use Rattle.rdm_log.proofs.laws.runs.order_at_a_close.Goals as goal

pub returns : goal.returns
unfolding accepts asks sends cames finishes answers collectors traded of_request verdicts result awaited is_paused
    is_closed answers_to joins has_begun entries_before_run last_run run_exchanges
returns c = record {
  first = may_abort_first;
  then = may_finish_then;
  last = may_answer_last;
  request_first = λ may. let wrong = may.fits.0.runs_answered in cc;
  request_last = λ may. let wrong = (may.unserved refl).last in cc;
}
