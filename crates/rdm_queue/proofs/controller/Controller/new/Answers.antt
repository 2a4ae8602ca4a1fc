use Rattle.rdm_queue.proofs.Common.{sym, subst, ◌∙◌, Setup, IsSetUp}
use Rattle.rdm_queue.proofs.BodyLemmas.AfterLemmas.{first_after}
use Rattle.rdm_queue.proofs.controller.Controller.new.Goals as goal

pub returns-in-Ok-new : goal.returns-in-Ok-new
returns-in-Ok-new g c =
    let setup = c.into_setup-setup.result in
    let first : IsSetUp setup c.in-Ok-new.queue.value =
    subst (IsSetUp setup) (sym (c.in-Ok-new.ensures.ok ∙ c.new.ensures)) (first_after setup) in
    subst (λ (s : Setup). IsSetUp s c.in-Ok-new.queue.value) c.into_setup-setup.ensures first
