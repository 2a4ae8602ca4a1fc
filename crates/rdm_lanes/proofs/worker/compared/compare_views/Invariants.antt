-- the views of the ends before this one are compared
use Rattle.rdm_lanes.proofs.ReadLemmas.{ReadBefore}
use Rattle.rdm_lanes.proofs.worker.compared.compare_views.Given as goal

abbrev pub invariant-loop-end : goal.invariant-loop-end
invariant-loop-end g l = ReadBefore l.shown l.end-index l.ends
