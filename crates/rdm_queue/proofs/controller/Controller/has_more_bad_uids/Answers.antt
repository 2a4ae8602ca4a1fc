use Rattle.std.proofs.Common.{◌∙◌}
use Rattle.rdm_queue.proofs.BodyLemmas.RunningLemmas.{more_after}
use Rattle.rdm_queue.proofs.controller.Controller.has_more_bad_uids.Goals as goal

pub returns : goal.returns
returns c = rw (← (c.deref.ensures ∙ c.self.view_is), c.has_more_bad_uids.ensures)
    (λ o h after. more_after o h c.deref.result.now after)
