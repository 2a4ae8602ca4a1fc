use Rattle.rdm_lanes.proofs.Common.{MovesFor}
use Rattle.rtrb.specs.Ring.{known_free}
use Rattle.rdm_lanes.proofs.worker.moving.move_outcomes.Given as goal

abbrev pub invariant-loop-alloc : goal.invariant-loop-alloc
invariant-loop-alloc l = MovesFor l.fn.client.0 l.fn.session l.fn.lane l.session l.lane

abbrev pub decreases-loop-alloc : goal.decreases-loop-alloc
decreases-loop-alloc l = known_free l.lane.replies
