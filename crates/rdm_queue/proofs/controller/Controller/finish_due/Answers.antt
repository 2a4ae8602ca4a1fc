use Rattle.std.proofs.Common.{sym, ◌∙◌}
use Rattle.rdm_queue.proofs.BodyLemmas.CallLemmas.{one_more_ended}
use Rattle.rdm_queue.proofs.controller.Controller.finish_due.Goals as goal

pub loop-preserved : goal.loop-preserved
loop-preserved c =
    λ k amid. one_more_ended k c.finish_next.result c.loop.self c.finish_next.new.self
    (sym c.is_some.ensures ∙ c.loop-test.true) c.finish_next.ensures.ended (c.loop.invariant k amid)
