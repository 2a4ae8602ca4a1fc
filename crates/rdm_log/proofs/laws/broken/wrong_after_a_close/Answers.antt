use Rattle.rdm_log.proofs.Common.{sym, false≢true, joins, accepts, sends, finishes, collectors, asks, answers}
use Rattle.rdm_log.proofs.Common.{has_begun, entries_before_run, last_run, run_exchanges, awaited, is_paused, is_closed}
use Rattle.rdm_log.proofs.Common.{answers_to}
use Rattle.rdm_log.proofs.SampleLemmas.SampleLegal.{may_send}
use Rattle.rdm_log.proofs.laws.broken.wrong_after_a_close.Goals as goal

pub returns : goal.returns
unfolding joins accepts finishes collectors sends awaited is_paused is_closed answers_to asks answers has_begun
    entries_before_run last_run run_exchanges
returns c = record {
  waits = may_send.1;
  sent = λ may. false≢true (sym may.not_closed);
  accepted = λ may. let none = may.1 in cc;
}
