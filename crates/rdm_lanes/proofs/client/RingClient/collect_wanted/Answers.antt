use Rattle.rdm_lanes.proofs.Common.{◌∙◌, ◌++◌, ◌∷◌, [], List, sym, ap, DeviceView, known_items, RingOutcome, work_in}
use Rattle.rdm_lanes.proofs.Common.{value_in, values_in, found_after, last_found, HoldsFor}
use Rattle.rtrb.specs.Ring.{sent as pushed, received as popped}
use Rattle.rdm_lanes.proofs.Counting.{own_more}
use Rattle.rdm_lanes.proofs.ServeLemmas.{at_first}
use Rattle.rdm_lanes.proofs.ReadLemmas.{found_more}
use Rattle.rdm_lanes.proofs.client.RingClient.collect_wanted.Goals as goal

pub invariant_of-self-2-clause-last : goal.invariant_of-self-2-clause-last
invariant_of-self-2-clause-last g c =
    let me = c.args.self.now in
    let item = c.pop_known-item.result in
    c.keep_found.ensures
    ∙ ap (λ (v : DeviceView). found_after v (value_in item)) (c.deref_mut.ensures.value ∙ me.last)
    ∙ sym (found_more _ item)
    ∙ ap (λ (items : List RingOutcome). last_found (values_in items))
    (ap (λ (items : List RingOutcome). items ++ item ∷ []) (sym c.slots.ensures.looked.1)
    ∙ sym c.pop_known-item.ensures.received.0)

pub invariant_of-self-2-clause-own : goal.invariant_of-self-2-clause-own
invariant_of-self-2-clause-own g c =
    let me = c.args.self.now in
    let item = c.pop_known-item.result in
    let held = at_first (HoldsFor c.args.asks me.desk) (known_items c.slots.new.self)
    (known_items c.pop_known-item.new.self) item c.pop_known-item.ensures.received.1
    (c.holds_for.ensures c.if-not-holds_for.false) in
    let got = c.pop_known-item.ensures.received.0
    ∙ ap (λ (items : List RingOutcome). items ++ item ∷ []) c.slots.ensures.looked.1 in
    rw (c.settle-collected.ensures.removed, got)
    (own_more c.args.asks (work_in (pushed me.calls)) (popped me.replies) item me.desk held me.own)
