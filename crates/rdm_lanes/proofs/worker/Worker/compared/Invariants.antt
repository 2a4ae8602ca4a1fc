use Rattle.rdm_lanes.proofs.EndLemmas.{Comparing}
use Rattle.rdm_lanes.proofs.worker.Worker.compared.Given as goal

abbrev pub invariant-loop-at : goal.invariant-loop-at
invariant-loop-at g l =
    Comparing l.fn.self.session l.fn.self.lanes.items l.fn.ends.items l.lanes.items l.ends.items l.at
