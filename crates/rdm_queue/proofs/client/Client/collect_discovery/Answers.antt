use Rattle.rdm_queue.proofs.Common.{◌∷◌, refl, sym, ◌∙◌, ap, slice_get_first}
use Rattle.rdm_queue.proofs.BodyLemmas.ValueLemmas.{collects-discovery}
use Rattle.rdm_queue.proofs.client.Client.collect_discovery.Goals as goal

pub returns-clause-removed : goal.returns-clause-removed
returns-clause-removed g c =
    let found = g.T.TakesDevices.devices c.move_oldest.new.set in
    collects-discovery c.args.self.now _ c.in-Discovery.number _ c.in-Discovery.fault found
    (c.in_ok-number.ensures.items ∙ ap (λ d. d ∷ c.pop_front.new.self.items) c.in-Discovery.is)
    (slice_get_first c.args.self.now.sets.items found c.move_oldest.ensures.taken
    ∙ ap (λ s. found ∷ s.items) (sym c.move_oldest.ensures.removed)) refl refl c.in_ok-number.ensures.capacity
    (ap (λ s. s.room) c.move_oldest.ensures.removed) c.requires
