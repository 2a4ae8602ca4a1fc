use Rattle.rdm_queue.proofs.Common.{◌≡◌, Some, slice_get, sym, ap, ◌∙◌, refl, ◌≢◌, slice_get-get_or, outcome_value}
use Rattle.rdm_queue.proofs.Common.{request_outcome, first_kind_owed, state_of}
use Rattle.rdm_log.specs.declared.outcome.OutcomeKind.TheVariants as kinds
use Rattle.rdm_queue.proofs.BodyLemmas.RingSteps.{kind_is, if_none}
use Rattle.rdm_queue.proofs.BodyLemmas.RingFields.{own_clients, MayCollect, may_collect}
use Rattle.rdm_queue.proofs.queue.Queue.next_completion.Goals as goal

-- the client, and all clients after its oldest outcome was removed, if that was a request's
at : (c : goal.After-self-2-1)
    → slice_get c.self.inside.clients.items c.from.result ≡ Some c.in_ok-get_mut.field-0.now
at c =
    slice_get-get_or c.self.inside.clients.items c.from.result c.in_ok-get_mut.field-0.now
    (c.in_ok-get_mut.ensures.variant.0 refl)
    ∙ ap (λ m. Some m) (sym c.in_ok-get_mut.ensures.value)

collected : (c : goal.After-self-2-1)
    → MayCollect (state_of c.self.inside) c.self.inside.clients.items c.from.result c.collect_request.new.self
    c.collect_request.result (λ r. outcome_value (request_outcome r))
collected c =
    may_collect (state_of c.self.inside) c.self.inside.clients.items c.from.result c.in_ok-get_mut.field-0.now
    c.collect_request.new.self c.collect_request.result (λ r. outcome_value (request_outcome r))
    (own_clients c.self.inside c.self.invariant.0) (at c) c.collect_request.ensures.removed
    c.collect_request.ensures.unchanged

pub invariant_of-self-2 : goal.invariant_of-self-2
invariant_of-self-2 c = let are = (collected c).are in rw (are.places, are.waiting) (are.kept, c.self.invariant.1)

pub returns-clause-removed : goal.returns-clause-removed
returns-clause-removed c =
    let all = collected c in
    rw (← c.self.view_is, all.are.places, all.are.waiting, ← c.from.ensures) all.removed

pub returns-clause-none : goal.returns-clause-none
returns-clause-none c =
    let k = c.in_ok-get_mut.field-0.now in
    rw (← c.self.view_is, ← c.from.ensures)
    (if_none c.collect_request.result (λ (other : first_kind_owed k ≢ Some kinds.Request) is.
    other (sym (kind_is (state_of c.self.inside) c.self.inside.clients.items c.from.result k refl (at c)) ∙ is))
    c.collect_request.ensures.none)
