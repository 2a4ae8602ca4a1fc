use Rattle.rdm_files.proofs.FiveLemmas.{NoneEnd}
use Rattle.rdm_files.proofs.losses.first_of_five.Given as goal

abbrev pub invariant-ends : goal.invariant-ends
invariant-ends l = NoneEnd l.sorted l.i
