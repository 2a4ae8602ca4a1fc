use Rattle.rdm_lanes.proofs.Common.{◌≡◌, length, take, vec_capacity, AreNewWith}
use Rattle.rdm_lanes.proofs.opening.steps.open_clients.Given as goal

abbrev pub invariant-loop-n : goal.invariant-loop-n
invariant-loop-n g l =
    AreNewWith l.ring (take l.n-index l.places) l.clients.items l.lanes.items
    × (vec_capacity l.clients ≡ length l.places) × (vec_capacity l.lanes ≡ length l.places)
