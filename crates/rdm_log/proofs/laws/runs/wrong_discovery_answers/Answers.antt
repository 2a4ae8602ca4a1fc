use Rattle.rdm_log.proofs.Common.{refl, arith, false≢true, certified, joins, accepts, asks, sends, cames, finishes}
use Rattle.rdm_log.proofs.Common.{answers, collectors, traded, of_request, verdicts, result, awaited, is_paused}
use Rattle.rdm_log.proofs.Common.{is_closed, answers_to, has_begun, entries_before_run, last_run, run_exchanges}
use Rattle.rdm_log.proofs.SampleLemmas.RunsLegal.{not_zero, may_answer_first, goes_on_9}
use Rattle.rdm_log.proofs.SampleLemmas.FailedRuns.{may_abort}
use Rattle.rdm_log.proofs.laws.runs.wrong_discovery_answers.Goals as goal

pub returns : goal.returns
unfolding accepts asks sends cames finishes answers collectors traded of_request verdicts result awaited is_paused
    is_closed answers_to joins has_begun entries_before_run last_run run_exchanges
returns c = record {
  asked_during = λ may. false≢true (may.by_run (not_zero 1 (omega arith))).serves;
  aborted = may_abort;
  never_begun = λ may. let wrong = (may.unserved refl).closing.runs_answered in cc;
  forgotten = λ legal. let wrong = (legal.settled.all_closed refl refl).1 in cc;
  unasked = λ may. false≢true (may.by_run (not_zero 1 (omega arith))).shows.0.0.closed;
  no_fault = λ may. let wrong = (may.by_run (not_zero 1 (omega arith))).shows.search.unmutes in cc;
  failed_before = λ may. (may.by_run (not_zero 1 (omega arith))).shows.0.0.goes_on.no_failure.0 refl;
  budget_left = λ may. omega (arith, (may.by_run (not_zero 1 (omega arith))).shows.0.0.used);
  one_left = λ legal. false≢true legal.settled.runs_answered.0.1.0;
  too_early = λ may. goes_on_9.not_done (may.by_run (not_zero 1 (omega arith))).shows;
  done = may_answer_first;
  done_in_vain = λ may. (may.by_run (not_zero 1 (omega arith))).shows.1 certified;
}
