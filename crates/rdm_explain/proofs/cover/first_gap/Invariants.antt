use Rattle.rdm_explain.proofs.GapLemmas.{Swept}
use Rattle.rdm_explain.proofs.cover.first_gap.Given as goal

abbrev pub invariant-loop-stretch : goal.invariant-loop-stretch
invariant-loop-stretch l = Swept l.stretches l.stretch-index l.next
