use Rattle.rdm_log.proofs.Common.{refl, joins, accepts, sends, cames, finishes, collectors, traded, of_request}
use Rattle.rdm_log.proofs.Common.{verdicts, result, asks, answers, has_begun, entries_before_run, last_run}
use Rattle.rdm_log.proofs.Common.{run_exchanges, awaited, is_paused, is_closed, answers_to}
use Rattle.rdm_log.proofs.SampleLemmas.SampleLegal.{some_list}
use Rattle.rdm_log.proofs.laws.broken.wrong_collector.Goals as goal

pub returns : goal.returns
unfolding joins accepts finishes collectors sends cames traded of_request verdicts result awaited is_paused is_closed
    answers_to asks answers has_begun entries_before_run last_run run_exchanges
returns c = record {
  own = (
    record { results_open = tt; runs_answered = tt; run_goes_on = tt; all_closed = λ closed waits. (refl, refl) },
    some_list _ _,
  );
  other = λ may. may.1 refl;
}
