use Rattle.rdm_line.proofs.KeepsLemmas.{run_fails, run_sound}
use Rattle.rdm_line.proofs.laws.fails_are_named.Goals as goal

pub returns : goal.returns
returns c = record { named = run_fails; none = run_sound }
