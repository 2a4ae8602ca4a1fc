use Rattle.rdm_log.proofs.Common.{refl, accepts, sends, cames, finishes, collectors, traded, of_request, verdicts}
use Rattle.rdm_log.proofs.Common.{result, asks, answers, has_begun, entries_before_run, last_run, run_exchanges}
use Rattle.rdm_log.proofs.Common.{awaited, answers_to}
use Rattle.rdm_log.proofs.laws.logs.counts_of_a_log.Goals as goal

pub returns : goal.returns
unfolding accepts sends cames finishes collectors traded of_request verdicts result awaited answers_to asks answers
    has_begun entries_before_run last_run run_exchanges
returns c = record { waits = refl; collected = refl; outstanding = refl; settled = refl; told = refl; outcome = refl }
