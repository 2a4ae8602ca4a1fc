use Rattle.std.proofs.Common.{◌∙◌}
use Rattle.rdm_queue.proofs.BodyLemmas.AfterFinish.{came_amid}
use Rattle.rdm_queue.proofs.controller.Controller.hear.Goals as goal

pub returns : goal.returns
returns c =
    rw (← (c.deref_mut.ensures.value ∙ c.self.view_is))
    (λ o h after waits. came_amid o h c.deref_mut.result.now c.hear.new.self c.args.event.now waits
    c.hear.ensures.heard c.hear.ensures.heard_by_run after)
