use Rattle.rdm_lanes.specs.body.Doing.{AreServed}
use Rattle.rdm_lanes.proofs.worker.Worker.serve_clients.Given as goal

abbrev pub invariant-loop-at : goal.invariant-loop-at
invariant-loop-at l = AreServed l.at l.fn.self l.self
