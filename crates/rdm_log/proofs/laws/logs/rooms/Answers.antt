use Rattle.rdm_log.proofs.Common.{refl, accepts, finishes, collectors, asks, answers, sends, has_begun}
use Rattle.rdm_log.proofs.Common.{entries_before_run, last_run, run_exchanges, awaited, is_closed}
use Rattle.rdm_log.proofs.laws.logs.rooms.Goals as goal

pub returns : goal.returns
unfolding accepts finishes collectors awaited is_closed asks answers sends has_begun entries_before_run last_run
    run_exchanges
returns c = record { accepted = refl; finished = refl; closed = refl; three = refl; two = refl }
