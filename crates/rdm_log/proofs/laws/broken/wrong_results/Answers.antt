use Rattle.rdm_log.proofs.Common.{refl, none-some, accepts, sends, cames, finishes, traded, of_request, verdicts}
use Rattle.rdm_log.proofs.Common.{result, asks, answers, has_begun, entries_before_run, last_run, run_exchanges}
use Rattle.rdm_log.proofs.Common.{awaited, is_closed}
use Rattle.rdm_log.proofs.laws.broken.wrong_results.Goals as goal

pub returns : goal.returns
unfolding accepts finishes sends cames traded of_request verdicts result awaited is_closed asks answers has_begun
    entries_before_run last_run run_exchanges
returns c = record {
  twice = λ may. none-some may.accepted may.oldest;
  never = λ legal. let none = (legal.settled.all_closed refl refl).0 in cc;
  late = λ legal. let open_ = legal.settled.results_open.0 in cc;
  not_accepted = λ may. none-some may.accepted may.oldest;
}
