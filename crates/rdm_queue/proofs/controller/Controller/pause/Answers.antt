use Rattle.rdm_queue.proofs.Common.{◌∷◌, [], refl, sym, ◌∙◌, Pause}
use Rattle.rdm_queue.proofs.BodyLemmas.AfterLemmas.{pause_after}
use Rattle.rdm_queue.proofs.controller.Controller.pause.Goals as goal

pub returns-then-can_pause-clause-adds : goal.returns-then-can_pause-clause-adds
returns-then-can_pause-clause-adds c =
    λ k after.
    let can = sym (c.can_pause.ensures k.opening k.entries after) ∙ c.if-can_pause.true in
    record {
      block = Pause ∷ [];
      adds = rw can refl;
      after = rw (c.set_paused.ensures, c.deref_mut.ensures.value ∙ c.self.view_is)
          (pause_after k.opening k.entries c.args.self.now can after);
    }
