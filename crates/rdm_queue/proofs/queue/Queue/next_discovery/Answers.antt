use Rattle.rdm_queue.proofs.Common.{◌≡◌, Some, slice_get, sym, ap, ◌∙◌, refl, ◌≢◌, slice_get-get_or, outcome_value}
use Rattle.rdm_queue.proofs.Common.{discovery_outcome, first_kind_owed, state_of}
use Rattle.rdm_log.specs.declared.outcome.OutcomeKind.TheVariants as kinds
use Rattle.rdm_queue.proofs.BodyLemmas.RingSteps.{kind_is, if_none}
use Rattle.rdm_queue.proofs.BodyLemmas.RingFields.{own_clients, MayCollect, may_collect}
use Rattle.rdm_queue.proofs.queue.Queue.next_discovery.Given.{Over}
use Rattle.rdm_queue.proofs.queue.Queue.next_discovery.Goals as goal

-- the client, and all clients after its oldest outcome was removed, if that was a discovery's
at : (g : Over) (c : goal.After-self-2-1 g)
    → slice_get c.self.inside.clients.items c.from.result ≡ Some c.in_ok-get_mut.field-0.now
at g c =
    slice_get-get_or c.self.inside.clients.items c.from.result c.in_ok-get_mut.field-0.now
    (c.in_ok-get_mut.ensures.variant.0 refl)
    ∙ ap (λ m. Some m) (sym c.in_ok-get_mut.ensures.value)

collected : (g : Over) (c : goal.After-self-2-1 g)
    → MayCollect (state_of c.self.inside) c.self.inside.clients.items c.from.result c.collect_discovery.new.self
    c.collect_discovery.result
    (λ end. outcome_value (discovery_outcome end (g.T.TakesDevices.devices c.collect_discovery.new.set)))
collected g c =
    let k = c.in_ok-get_mut.field-0.now in
    let l = c.collect_discovery.new.self in
    may_collect (state_of c.self.inside) c.self.inside.clients.items c.from.result k l c.collect_discovery.result
    (λ end. outcome_value (discovery_outcome end (g.T.TakesDevices.devices c.collect_discovery.new.set)))
    (own_clients c.self.inside c.self.invariant.0) (at g c) c.collect_discovery.ensures.removed
    (if_none c.collect_discovery.result
    (λ (same : (l ≡ k) × (c.collect_discovery.new.set ≡ c.args.set.now)). same.0)
    c.collect_discovery.ensures.unchanged)

pub invariant_of-self-2 : goal.invariant_of-self-2
invariant_of-self-2 g c = let are = (collected g c).are in rw (are.places, are.waiting)
    (are.kept, c.self.invariant.1)

pub returns-clause-removed : goal.returns-clause-removed
returns-clause-removed g c =
    let all = collected g c in
    rw (← c.self.view_is, all.are.places, all.are.waiting, ← c.from.ensures) all.removed

pub returns-clause-none : goal.returns-clause-none
returns-clause-none g c =
    let k = c.in_ok-get_mut.field-0.now in
    rw (← c.self.view_is, ← c.from.ensures)
    (if_none c.collect_discovery.result (λ (other : first_kind_owed k ≢ Some kinds.Discovery) is.
    other (sym (kind_is (state_of c.self.inside) c.self.inside.clients.items c.from.result k refl (at g c)) ∙ is))
    c.collect_discovery.ensures.none)
