use Rattle.rdm_lanes.proofs.Common.{◌∙◌, ◌++◌, ◌∷◌, [], List, length-append, ap, refl, arith, ClientCall, Submit}
use Rattle.rtrb.specs.Ring.{sent as pushed}
use Rattle.rdm_lanes.proofs.Counting.{counted_sent, own_submitted}
use Rattle.rdm_lanes.proofs.client.RingClient.submit.Goals as goal

pub invariant_of-self-2-clause-counted : goal.invariant_of-self-2-clause-counted
invariant_of-self-2-clause-counted g c =
    let me = c.args.self.now in
    counted_sent me.calls c.push_reserved.new.self me.replies me.sent me.collected me.left (Submit c.args.request)
    me.counted c.if-self.false
    (c.push_reserved.ensures.sent.0
    ∙ ap (λ (xs : List ClientCall). xs ++ (Submit c.args.request) ∷ []) c.slots.ensures.looked.1) refl

pub invariant_of-self-2-clause-held : goal.invariant_of-self-2-clause-held
invariant_of-self-2-clause-held g c =
    let me = c.args.self.now in
    rw c.in_default.ensures.held (omega (arith, me.held, length-append me.desk.requests (c.args.callback ∷ [])))

pub invariant_of-self-2-clause-own : goal.invariant_of-self-2-clause-own
invariant_of-self-2-clause-own g c =
    let me = c.args.self.now in
    rw c.in_default.ensures.held
    (own_submitted (pushed me.calls) (pushed c.push_reserved.new.self) _ me.desk.requests me.desk.asks c.args.callback
    c.args.request
    (c.push_reserved.ensures.sent.0
    ∙ ap (λ (xs : List ClientCall). xs ++ (Submit c.args.request) ∷ []) c.slots.ensures.looked.1) me.own)
