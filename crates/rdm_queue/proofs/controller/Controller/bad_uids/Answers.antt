use Rattle.std.proofs.Common.{◌∙◌}
use Rattle.rdm_queue.proofs.BodyLemmas.RunningLemmas.{bad_after}
use Rattle.rdm_queue.proofs.controller.Controller.bad_uids.Goals as goal

pub returns-clause-value : goal.returns-clause-value
returns-clause-value c = rw (← (c.deref.ensures ∙ c.self.view_is), c.bad_uids.ensures.value)
    (λ o h after. bad_after o h c.deref.result.now after
    (rw c.bad_uids.ensures.value at c.bad_uids.ensures.answered))
