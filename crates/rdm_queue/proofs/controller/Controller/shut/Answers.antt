use Rattle.rdm_queue.proofs.Common.{◌∙◌}
use Rattle.rdm_queue.proofs.BodyLemmas.AfterFinish.{close_amid}
use Rattle.rdm_queue.proofs.controller.Controller.shut.Goals as goal

pub returns : goal.returns
returns c =
    λ o h after open_. rw (c.set_closed.ensures, c.deref_mut.ensures.value ∙ c.self.view_is)
    (close_amid o h c.args.self.now open_ after)
