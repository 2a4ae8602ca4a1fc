use Rattle.rdm_queue.proofs.Common.{◌∷◌, [], refl, sym, ◌∙◌, Resume}
use Rattle.rdm_queue.proofs.BodyLemmas.AfterLemmas.{resume_after}
use Rattle.rdm_queue.proofs.controller.Controller.resume.Goals as goal

pub returns-then-can_resume-clause-adds : goal.returns-then-can_resume-clause-adds
returns-then-can_resume-clause-adds c =
    λ k after.
    let can = sym (c.can_resume.ensures k.opening k.entries after) ∙ c.if-can_resume.true in
    record {
      block = Resume ∷ [];
      adds = rw can refl;
      after = rw (c.set_paused.ensures, c.deref_mut.ensures.value ∙ c.self.view_is)
          (resume_after k.opening k.entries c.args.self.now can after);
    }
