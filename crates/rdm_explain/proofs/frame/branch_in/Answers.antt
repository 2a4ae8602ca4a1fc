use Rattle.std.proofs.Common.{◌∙◌, sym, ap, true, false, bytes_eq}
use Rattle.rdm_wire.specs.Packet.{fields_at}
use Rattle.rdm_wire.specs.Frames.{lower_bound, upper_bound}
use Rattle.rdm_explain.proofs.FrameLemmas.{branch_test}
use Rattle.rdm_explain.proofs.frame.branch_in.Goals as goal

pub returns-in_default-clause-none : goal.returns-in_default-clause-none
returns-in_default-clause-none c =
    c.in_default.ensures.none (lower_bound (fields_at c.args.frame.now)) (upper_bound (fields_at c.args.frame.now))
    c.args.source c.args.tn

pub returns-then-eq-clause-some : goal.returns-then-eq-clause-some
returns-then-eq-clause-some c =
    branch_test c.args.frame.now c.discovery_frame-branch.result.items c.bounds_of.result _ _
    c.args.source c.args.tn true c.in-Some.ensures.lo c.in-Some.ensures.hi c.bounds_of.ensures
    c.discovery_frame-branch.ensures
    (ap (bytes_eq c.args.frame.now) (sym c.as_slice.ensures.value) ∙ sym c.eq.ensures ∙ c.if-eq.true)

pub returns-else-eq-clause-none : goal.returns-else-eq-clause-none
returns-else-eq-clause-none c =
    branch_test c.args.frame.now c.discovery_frame-branch.result.items c.bounds_of.result _ _
    c.args.source c.args.tn false c.in-Some.ensures.lo c.in-Some.ensures.hi c.bounds_of.ensures
    c.discovery_frame-branch.ensures
    (ap (bytes_eq c.args.frame.now) (sym c.as_slice.ensures.value) ∙ sym c.eq.ensures ∙ c.if-eq.false)
