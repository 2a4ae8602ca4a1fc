use Rattle.std.proofs.Common.{◌∙◌}
use Rattle.rdm_queue.proofs.BodyLemmas.CallLemmas.{collect_adds}
use Rattle.rdm_queue.proofs.controller.Controller.next_outcome.Goals as goal

pub returns-clause-adds : goal.returns-clause-adds
returns-clause-adds c =
    rw (← (c.deref_mut.ensures.value ∙ c.self.view_is))
    (collect_adds c.next_outcome.result c.deref_mut.result.now c.next_outcome.new.self c.args.client
    c.next_outcome.ensures.outcome c.next_outcome.ensures.removed c.next_outcome.ensures.none)
