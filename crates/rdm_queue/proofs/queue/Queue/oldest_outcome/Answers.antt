use Rattle.rdm_queue.proofs.Common.{◌≡◌, List, Some, slice_get, sym, ◌∙◌, refl, Client, state_of}
use Rattle.rdm_queue.proofs.BodyLemmas.FieldLemmas.{found_at}
use Rattle.rdm_queue.proofs.BodyLemmas.RingSteps.{first_at, first_flag_at}
use Rattle.rdm_queue.proofs.queue.Queue.oldest_outcome.Goals as goal

at : (c : goal.After-oldest_outcome)
    → slice_get c.self.inside.clients.items c.from.result ≡ Some c.in_ok-get.field-0.now
at c =
    found_at c.self.inside.clients.items c.deref.result.now c.from.result c.in_ok-get.field-0.now c.deref.ensures.0
    c.in_ok-get.ensures.lookup.3.0 c.in_ok-get.ensures.lookup.1

pub returns-clause-value : goal.returns-clause-value
returns-clause-value c =
    rw (← c.self.view_is, ← c.from.ensures)
    (c.oldest_outcome.ensures.value
    ∙ sym (first_at (state_of c.self.inside) c.self.inside.clients.items c.from.result c.in_ok-get.field-0.now refl
    (at c)))

pub returns-clause-flag : goal.returns-clause-flag
returns-clause-flag c =
    rw (← c.self.view_is, ← c.from.ensures)
    (c.oldest_outcome.ensures.flag
    ∙ sym (first_flag_at (state_of c.self.inside) c.self.inside.clients.items c.from.result c.in_ok-get.field-0.now refl
    (at c)))
