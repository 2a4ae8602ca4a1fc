use Rattle.std.proofs.Common.{take}
use Rattle.rdm_explain.proofs.GapEndLemmas.{Opens}
use Rattle.rdm_explain.proofs.cover.gap_end.Given as goal

abbrev pub invariant-loop-stretch : goal.invariant-loop-stretch
invariant-loop-stretch l = Opens (take l.stretch-index l.stretches) l.from l.next
