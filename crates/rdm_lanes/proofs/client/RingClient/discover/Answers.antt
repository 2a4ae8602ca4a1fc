use Rattle.rdm_lanes.proofs.Common.{◌∙◌, ◌++◌, ◌∷◌, [], List, length-append, ap, refl, arith, ClientCall, Discover}
use Rattle.rtrb.specs.Ring.{sent as pushed}
use Rattle.rdm_lanes.proofs.Counting.{counted_sent, own_asked}
use Rattle.rdm_lanes.proofs.client.RingClient.discover.Goals as goal

pub invariant_of-self-2-clause-counted : goal.invariant_of-self-2-clause-counted
invariant_of-self-2-clause-counted g c =
    let me = c.args.self.now in
    counted_sent me.calls c.push_reserved.new.self me.replies me.sent me.collected me.left (Discover c.args.kind)
    me.counted c.if-self.false
    (c.push_reserved.ensures.sent.0
    ∙ ap (λ (xs : List ClientCall). xs ++ (Discover c.args.kind) ∷ []) c.slots.ensures.looked.1) refl

pub invariant_of-self-2-clause-held : goal.invariant_of-self-2-clause-held
invariant_of-self-2-clause-held g c =
    let me = c.args.self.now in
    rw c.in_default.ensures.held (omega (arith, me.held, length-append me.desk.asks (c.args.callback ∷ [])))

pub invariant_of-self-2-clause-own : goal.invariant_of-self-2-clause-own
invariant_of-self-2-clause-own g c =
    let me = c.args.self.now in
    rw c.in_default.ensures.held
    (own_asked (pushed me.calls) (pushed c.push_reserved.new.self) _ me.desk.requests me.desk.asks c.args.callback
    c.args.kind
    (c.push_reserved.ensures.sent.0
    ∙ ap (λ (xs : List ClientCall). xs ++ (Discover c.args.kind) ∷ []) c.slots.ensures.looked.1) me.own)
