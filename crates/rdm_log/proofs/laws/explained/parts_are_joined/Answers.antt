use Rattle.rdm_log.proofs.Common.{joins, accepts, sends, cames, finishes, collectors, traded, of_request, verdicts}
use Rattle.rdm_log.proofs.Common.{result, asks, answers, has_begun, entries_before_run, last_run, run_exchanges}
use Rattle.rdm_log.proofs.Common.{awaited, is_paused, is_closed, answers_to}
use Rattle.rdm_log.proofs.SampleLemmas.PartsLegal.{joined_legal, joined}
use Rattle.rdm_log.proofs.laws.explained.parts_are_joined.Goals as goal

pub returns : goal.returns
unfolding joins accepts finishes collectors sends cames traded of_request verdicts result awaited is_paused is_closed
    answers_to asks answers has_begun entries_before_run last_run run_exchanges
returns c = record { legal = joined_legal; joined = joined }
