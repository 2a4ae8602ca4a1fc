use Rattle.rdm_log.proofs.Common.{refl, joins, accepts, asks, sends, cames, finishes, answers, collectors, traded}
use Rattle.rdm_log.proofs.Common.{of_request, verdicts, result, awaited, is_paused, is_closed, answers_to, has_begun}
use Rattle.rdm_log.proofs.Common.{entries_before_run, last_run, run_exchanges}
use Rattle.rdm_log.proofs.laws.runs.runs_are_seen.Goals as goal

pub returns : goal.returns
unfolding accepts asks sends cames finishes answers collectors traded of_request verdicts result awaited is_paused
    is_closed answers_to joins has_begun entries_before_run last_run run_exchanges
returns c = record {
  seen = refl;
  devices = refl;
  full = refl;
  serves = refl;
  open_ = refl;
  still_open = refl;
  known = refl;
  devices_run = refl;
  next = refl;
  outcome = refl;
  started_from = refl;
}
