use Rattle.std.proofs.Common.{◌∙◌}
use Rattle.rdm_queue.proofs.BodyLemmas.CallLemmas.{shown_kind, shown_outcome, shown_flag}
use Rattle.rdm_queue.proofs.controller.Controller.oldest.Goals as goal

pub returns-clause-kind : goal.returns-clause-kind
returns-clause-kind c = rw (← (c.deref.ensures ∙ c.self.view_is))
    (shown_kind c.oldest_outcome.result c.deref.result.now c.args.client.0 c.oldest_outcome.ensures.value)

pub returns-clause-outcome : goal.returns-clause-outcome
returns-clause-outcome c = rw (← (c.deref.ensures ∙ c.self.view_is))
    (shown_outcome c.oldest_outcome.result c.deref.result.now c.args.client c.oldest_outcome.ensures.value)

pub returns-clause-may_be_incomplete : goal.returns-clause-may_be_incomplete
returns-clause-may_be_incomplete c = rw (← (c.deref.ensures ∙ c.self.view_is))
    (shown_flag c.oldest_outcome.result c.deref.result.now c.args.client.0 c.oldest_outcome.ensures.flag)
