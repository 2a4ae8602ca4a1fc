use Rattle.rdm_queue.proofs.Common.{◌≡◌, false, [], ◌∷◌, sym, ap, ◌∙◌, Close, is_closed, grown, QueueState}
use Rattle.rdm_queue.proofs.BodyLemmas.CallLemmas.{close_adds}
use Rattle.rdm_queue.proofs.controller.Controller.close.Goals as goal

pub returns-then-not-is_closed-clause-adds : goal.returns-then-not-is_closed-clause-adds
returns-then-not-is_closed-clause-adds c =
    λ k after.
    let open_ : is_closed k.opening k.entries ≡ false =
    sym after.stands.closed_is
    ∙ ap (λ (s : QueueState). s.closed) (sym (c.deref.ensures ∙ c.self.view_is)) ∙ sym c.is_closed.ensures
    ∙ c.if-not-is_closed.true in
    close_adds k _ open_
    (c.finish_due.ensures (grown k (Close ∷ [])) (c.shut.ensures k.opening k.entries after open_))
