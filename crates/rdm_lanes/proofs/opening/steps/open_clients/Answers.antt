use Rattle.std.proofs.Common.{◌∙◌, get_or, take}
use Rattle.rdm_lanes.proofs.OpenLemmas.{new_at, new_hold_nothing, get_within}
use Rattle.rdm_lanes.proofs.opening.steps.open_clients.Goals as goal

pub loop-n-preserved : goal.loop-n-preserved
loop-n-preserved g c =
    let places = c.args.places.now in
    let i = c.loop-n.n-index in (
      rw (c.push_reserved.ensures.items, c.push_reserved-in-loop-n.ensures.items)
          (new_at c.args.ring places c.loop-n.clients.items c.loop-n.lanes.items i (get_or places i 0) c.in-Some.client
          c.in-Some.lane c.loop-n-test.true (get_within places i 0 (get_or places i 0) c.loop-n-test.true)
          c.loop-n.invariant.0 c.in-Some.ensures),
      c.push_reserved.ensures.capacity ∙ c.loop-n.invariant.1,
      c.push_reserved-in-loop-n.ensures.capacity ∙ c.loop-n.invariant.2,
    )

pub discard-requires : goal.discard-requires
discard-requires g c =
    new_hold_nothing c.args.ring (take c.loop-n.n-index c.args.places.now) c.loop-n.clients.items c.loop-n.lanes.items
    c.loop-n.invariant.0
