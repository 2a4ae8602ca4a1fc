use Rattle.rdm_lanes.specs.body.Doing.{AreMoved}
use Rattle.rdm_lanes.proofs.worker.Worker.move_all.Given as goal

abbrev pub invariant-loop-at : goal.invariant-loop-at
invariant-loop-at l = AreMoved l.at l.fn.self l.self
