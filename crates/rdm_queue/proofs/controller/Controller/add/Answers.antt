use Rattle.std.proofs.Common.{◌∙◌}
use Rattle.rdm_queue.proofs.BodyLemmas.CallLemmas.{accept_adds}
use Rattle.rdm_queue.proofs.controller.Controller.add.Goals as goal

pub returns : goal.returns
returns c =
    let same = c.deref_mut.ensures.value ∙ c.self.view_is in
    rw (← same)
    (accept_adds c.deref_mut.result.now c.add.new.self c.args.client c.args.work c.add.result
    (rw (← same) at c.requires) c.add.ensures.number c.add.ensures.accepted)
