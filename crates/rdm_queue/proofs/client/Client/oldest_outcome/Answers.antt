use Rattle.rdm_queue.proofs.Common.{Some, sym, ap, ◌∙◌, refl}
use Rattle.rdm_queue.proofs.BodyLemmas.ValueLemmas.{none_first, request_first, discovery_first, has_first}
use Rattle.rdm_queue.proofs.BodyLemmas.FieldLemmas.{found_at}
use Rattle.rdm_queue.proofs.client.Client.oldest_outcome.Goals as goal

pub returns-in_err-number-clause-value : goal.returns-in_err-number-clause-value
returns-in_err-number-clause-value c =
    let k = c.args.self.now in
    rw c.from_residual.ensures
    (sym (none_first k.outcomes.items k.sets.items c.in_err-number.ensures.item.3))

pub unreachable-requires : goal.unreachable-requires
unreachable-requires c =
    let k = c.args.self.now in
    has_first k.outcomes.items k.sets.items c.in-Discovery.number c.in-Discovery.run' c.in-Discovery.fault c.requires
    (found_at k.outcomes.items k.outcomes.items 0 c.in_ok-number.field-0.now refl c.in_ok-number.ensures.item.3.0
    c.in_ok-number.ensures.item.1 ∙ ap (λ d. Some d) c.in-Discovery.is)
    (sym (rw c.in_default.is at c.oldest.ensures))

pub returns-in-Request-clause-value : goal.returns-in-Request-clause-value
returns-in-Request-clause-value c =
    let k = c.args.self.now in
    sym (request_first k.outcomes.items k.sets.items c.in-Request.number c.in-Request.done
    c.in-Request.may_be_incomplete
    (found_at k.outcomes.items k.outcomes.items 0 c.in_ok-number.field-0.now refl c.in_ok-number.ensures.item.3.0
    c.in_ok-number.ensures.item.1 ∙ ap (λ d. Some d) c.in-Request.is))

pub returns-in-Some-clause-value : goal.returns-in-Some-clause-value
returns-in-Some-clause-value c =
    let k = c.args.self.now in
    sym (discovery_first k.outcomes.items k.sets.items c.in-Discovery.number c.in-Discovery.run' c.in-Discovery.fault
    c.in-Some.set.now (found_at k.outcomes.items k.outcomes.items 0 c.in_ok-number.field-0.now refl
    c.in_ok-number.ensures.item.3.0 c.in_ok-number.ensures.item.1 ∙ ap (λ d. Some d) c.in-Discovery.is)
    (sym c.in-Some.ensures))
