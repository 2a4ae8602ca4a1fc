use Rattle.rdm_log.proofs.Common.{refl, joins, accepts, finishes, collectors, asks, answers, sends, has_begun}
use Rattle.rdm_log.proofs.Common.{entries_before_run, last_run, run_exchanges, is_closed, answers_to}
use Rattle.rdm_log.proofs.laws.logs.faults_in_order.Goals as goal

pub returns : goal.returns
unfolding joins accepts finishes collectors is_closed answers_to asks answers sends has_begun entries_before_run
    last_run run_exchanges
returns c = record {
  join_goes = refl;
  no_places = refl;
  no_memory = refl;
  closed_first = refl;
  full = refl;
  still_full = refl;
  unknown = refl;
  closed = refl;
}
