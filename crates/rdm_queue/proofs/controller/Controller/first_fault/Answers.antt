use Rattle.std.proofs.Common.{◌∙◌}
use Rattle.rdm_queue.proofs.BodyLemmas.CallLemmas.{refusal_adds}
use Rattle.rdm_queue.proofs.controller.Controller.first_fault.Goals as goal

pub returns-clause-adds : goal.returns-clause-adds
returns-clause-adds c =
    rw (← (c.deref.ensures ∙ c.self.view_is))
    (refusal_adds c.first_fault.result c.deref.result.now c.args.client c.args.work.now c.first_fault.ensures)
