use Rattle.std.proofs.Common.{length}
use Rattle.rdm_lanes.proofs.SeatLemmas.{Unseating}
use Rattle.rdm_lanes.proofs.opening.rooms.unseated.Given as goal

abbrev pub invariant-loop-seats : goal.invariant-loop-seats
invariant-loop-seats g l = Unseating l.fn.seats.items l.seats.items l.bodies l.ends

abbrev pub decreases-loop-seats : goal.decreases-loop-seats
decreases-loop-seats g l = length l.seats.items
