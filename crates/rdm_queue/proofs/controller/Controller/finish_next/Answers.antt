use Rattle.std.proofs.Common.{◌∙◌}
use Rattle.rdm_queue.proofs.BodyLemmas.CallLemmas.{ends_each, ends_fewer, settled_each}
use Rattle.rdm_queue.proofs.controller.Controller.finish_next.Goals as goal

pub returns-clause-ended : goal.returns-clause-ended
returns-clause-ended c =
    rw (← (c.deref_mut.ensures.value ∙ c.self.view_is))
    (ends_each c.finish_next.result c.deref_mut.result.now c.finish_next.new.self c.finish_next.ensures.ended)

pub returns-clause-fewer : goal.returns-clause-fewer
returns-clause-fewer c =
    rw (← (c.deref_mut.ensures.value ∙ c.self.view_is))
    (ends_fewer c.finish_next.result c.deref_mut.result.now c.finish_next.new.self c.finish_next.ensures.ended)

pub returns-clause-settled : goal.returns-clause-settled
returns-clause-settled c =
    rw (← (c.deref_mut.ensures.value ∙ c.self.view_is))
    (settled_each c.finish_next.result c.deref_mut.result.now c.finish_next.new.self c.finish_next.ensures.none)
