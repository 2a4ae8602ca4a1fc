use Rattle.std.proofs.Common.{arith, true≢false, sym, ◌∙◌}
use Rattle.rdm_explain.proofs.OrderLemmas.{missing_here}
use Rattle.rdm_explain.proofs.order.first_missing_unmute.Goals as goal

pub returns-then-not-is_unmute : goal.returns-then-not-is_unmute
returns-then-not-is_unmute c =
    missing_here c.args.exchanges.now c.loop-at.at c.index-exchanges-at.result c.loop-at-test.true
    c.index-exchanges-at.is (omega (arith, c.loop-at.invariant.1, c.if-at-eq-UNMUTES.false)) c.loop-at.invariant.0
    (λ is. true≢false (sym (c.is_unmute.ensures.1 is) ∙ c.if-not-is_unmute.true))
