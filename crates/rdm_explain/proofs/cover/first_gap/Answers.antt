use Rattle.std.proofs.Common.{◌+◌, ◌<◌, arith, sym, ap, ◌∙◌, subst}
use Rattle.std.specs.Prelude.{nat_le, if◌then◌else◌}
use Rattle.rdm_explain.specs.body.Covering.{stretch}
use Rattle.rdm_explain.proofs.GapLemmas.{Swept, gap_is, swept_more}
use Rattle.rdm_explain.proofs.cover.first_gap.Goals as goal

pub returns-then-next-lo : goal.returns-then-next-lo
returns-then-next-lo c =
    gap_is c.args.stretches.now c.loop-stretch.stretch-index c.loop-stretch.next c.stretch-item.result
    c.from_number.result c.from_number.ensures.found c.from_number.ensures.value
    (omega (arith, c.number-lo.ensures.in_range)) c.requires c.loop-stretch.invariant.0 c.loop-stretch.invariant.1
    (λ within. subst (λ s. c.loop-stretch.next < s.lo) c.stretch-item.is
    (omega (arith, c.if-next-lo.true, c.number-lo.ensures.value)))

pub loop-stretch-preserved : goal.loop-stretch-preserved
loop-stretch-preserved c =
    subst (Swept c.args.stretches.now (c.loop-stretch.stretch-index + 1))
    (sym (c.after_stretch-next.ensures
    ∙ ap (λ h. if nat_le c.loop-stretch.next h then h + 1 else c.loop-stretch.next) c.number-hi.ensures.value))
    (swept_more c.args.stretches.now c.loop-stretch.stretch-index c.loop-stretch.next c.stretch-item.result
    c.loop-stretch-test.true (sym c.stretch-item.is) (omega (arith, c.if-next-lo.false, c.number-lo.ensures.value))
    c.number-hi.ensures.in_range c.loop-stretch.invariant)

pub returns-then-next-lt-END : goal.returns-then-next-lt-END
returns-then-next-lt-END c =
    gap_is c.args.stretches.now c.loop-stretch.stretch-index c.loop-stretch.next (stretch 0 0)
    c.from_number-then-next-lt-END.result c.from_number-then-next-lt-END.ensures.found
    c.from_number-then-next-lt-END.ensures.value c.if-next-lt-END.true c.requires c.loop-stretch.invariant.0
    c.loop-stretch.invariant.1 (λ within. absurd (omega arith))
