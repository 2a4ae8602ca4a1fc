use Rattle.std.proofs.Common.{subst, sym, take, ◌+◌}
use Rattle.rdm_explain.specs.body.Covering.{IsIn}
use Rattle.rdm_explain.proofs.GapEndLemmas.{Opens, opens_more}
use Rattle.rdm_explain.proofs.cover.gap_end.Goals as goal

pub loop-stretch-preserved : goal.loop-stretch-preserved
loop-stretch-preserved c =
    subst (λ n. Opens (take (c.loop-stretch.stretch-index + 1) c.args.stretches.now) c.number-from.result n)
    (sym (rw (c.number.ensures.value, c.number-in-loop-stretch.ensures.value) at c.nearer-next.ensures))
    (opens_more c.args.stretches.now c.loop-stretch.stretch-index c.number-from.result c.loop-stretch.next
    c.stretch-item.result c.loop-stretch-test.true (sym c.stretch-item.is)
    (λ h. c.requires (subst (IsIn c.args.stretches.now) c.number-from.ensures.value h)) c.loop-stretch.invariant)
