use Rattle.rdm_log.proofs.Common.{refl, joins, accepts, asks, sends, cames, finishes, answers, collectors, traded}
use Rattle.rdm_log.proofs.Common.{of_request, verdicts, result, awaited, is_paused, is_closed, answers_to, has_begun}
use Rattle.rdm_log.proofs.Common.{entries_before_run, last_run, run_exchanges}
use Rattle.rdm_log.proofs.laws.runs.counts_of_discoveries.Goals as goal

pub returns : goal.returns
unfolding accepts asks sends cames finishes answers collectors traded of_request verdicts result awaited is_paused
    is_closed answers_to joins has_begun entries_before_run last_run run_exchanges
returns c = record {
  later = refl;
  serves = refl;
  not_begun = refl;
  left = refl;
  outstanding = refl;
  uncollected = refl;
  reserved = refl;
  none_known = refl;
  free = refl;
  closed = refl;
  unknown = refl;
  fifth = refl;
}
