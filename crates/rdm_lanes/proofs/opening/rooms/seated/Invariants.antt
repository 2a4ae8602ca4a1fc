use Rattle.std.proofs.Common.{length}
use Rattle.rdm_lanes.proofs.SeatLemmas.{Seating}
use Rattle.rdm_lanes.proofs.opening.rooms.seated.Given as goal

abbrev pub invariant-loop-bodies : goal.invariant-loop-bodies
invariant-loop-bodies g l = Seating l.fn.clients.items l.bodies.items l.clients.items l.seats

abbrev pub decreases-loop-bodies : goal.decreases-loop-bodies
decreases-loop-bodies g l = length l.clients.items
