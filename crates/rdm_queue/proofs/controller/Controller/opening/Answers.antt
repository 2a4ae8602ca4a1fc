use Rattle.std.proofs.Common.{◌∙◌}
use Rattle.rdm_queue.proofs.BodyLemmas.RotateLemmas.{opening_is}
use Rattle.rdm_queue.proofs.controller.Controller.opening.Goals as goal

pub returns : goal.returns
returns c = rw (← (c.deref.ensures ∙ c.self.view_is))
    (λ o h after. c.opening.ensures ∙ opening_is o h c.deref.result.now after.stands)
