use Rattle.std.proofs.Common.{◌∙◌}
use Rattle.rdm_log.specs.declared.outcome.OutcomeKind.TheVariants.{Request}
use Rattle.rdm_queue.proofs.BodyLemmas.CallLemmas.{completion_adds, not_kind}
use Rattle.rdm_queue.proofs.controller.Controller.next_completion.Goals as goal

pub returns-clause-adds : goal.returns-clause-adds
returns-clause-adds c =
    rw (← (c.deref_mut.ensures.value ∙ c.self.view_is))
    (completion_adds c.next_completion.result c.deref_mut.result.now c.next_completion.new.self c.args.client
    c.next_completion.ensures.removed)

pub returns-clause-none : goal.returns-clause-none
returns-clause-none c =
    rw (← (c.deref_mut.ensures.value ∙ c.self.view_is))
    (not_kind c.next_completion.result c.deref_mut.result.now c.args.client.0 Request
    c.next_completion.ensures.none)
