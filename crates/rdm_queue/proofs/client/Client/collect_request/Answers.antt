use Rattle.std.proofs.Common.{◌∷◌, refl, ◌∙◌, ap}
use Rattle.rdm_queue.proofs.BodyLemmas.ValueLemmas.{collects-request}
use Rattle.rdm_queue.proofs.client.Client.collect_request.Goals as goal

pub returns-clause-removed : goal.returns-clause-removed
returns-clause-removed c =
    collects-request c.args.self.now _ c.in-Request.number c.in-Request.done _
    (c.in_ok-number.ensures.items ∙ ap (λ d. d ∷ c.pop_front.new.self.items) c.in-Request.is) refl refl refl
    c.in_ok-number.ensures.capacity c.requires
