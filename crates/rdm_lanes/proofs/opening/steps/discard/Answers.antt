use Rattle.std.proofs.Common.{◌∙◌, refl}
use Rattle.rdm_lanes.proofs.OpenLemmas.{hold_front, hold_last}
use Rattle.rdm_lanes.proofs.opening.steps.discard.Goals as goal

pub close_empty-requires : goal.close_empty-requires
close_empty-requires g c =
    let items = rw c.in-Some.is at c.pop.ensures.items in
    let last = hold_last c.pop.new.self.items c.in-Some.client (rw items at c.loop-client.invariant) in
    c.into_unspent.ensures ∙ c.end.ensures.unspent ∙ rw (last.0, last.1) refl

pub loop-client-preserved : goal.loop-client-preserved
loop-client-preserved g c =
    let items = rw c.in-Some.is at c.pop.ensures.items in
    hold_front c.pop.new.self.items c.in-Some.client (rw items at c.loop-client.invariant)
