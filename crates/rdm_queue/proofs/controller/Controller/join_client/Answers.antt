use Rattle.std.proofs.Common.{◌∙◌}
use Rattle.rdm_queue.proofs.BodyLemmas.CallLemmas.{join_adds}
use Rattle.rdm_queue.proofs.controller.Controller.join_client.Goals as goal

pub returns-clause-adds : goal.returns-clause-adds
returns-clause-adds c =
    rw (← (c.deref_mut.ensures.value ∙ c.self.view_is))
    (join_adds c.join_client.result c.deref_mut.result.now c.join_client.new.self c.args.places
    c.join_client.ensures.joined c.join_client.ensures.refused c.join_client.ensures.unchanged)
