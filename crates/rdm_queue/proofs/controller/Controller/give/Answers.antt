use Rattle.std.proofs.Common.{◌∙◌}
use Rattle.rdm_queue.proofs.BodyLemmas.CallLemmas.{given_each, none_each}
use Rattle.rdm_queue.proofs.controller.Controller.give.Goals as goal

pub returns-clause-frame : goal.returns-clause-frame
returns-clause-frame c =
    rw (← (c.deref_mut.ensures.value ∙ c.self.view_is))
    (given_each c.take.result c.deref_mut.result.now c.take.new.self c.take.ensures.frame)

pub returns-clause-none : goal.returns-clause-none
returns-clause-none c =
    rw (← (c.deref_mut.ensures.value ∙ c.self.view_is))
    (none_each c.take.result c.deref_mut.result.now c.take.new.self c.take.ensures.none)
