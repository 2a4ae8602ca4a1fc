use Rattle.std.proofs.Common.{◌≡◌, length, subst, arith}
use Rattle.rdm_files.proofs.FiveLemmas.{NoneEnd, none-at_all, first-least}
use Rattle.rdm_files.proofs.losses.first_of_five.Goals as goal

pub returns-in-Some-clause-some : goal.returns-in-Some-clause-some
returns-in-Some-clause-some c =
    first-least c.args.sorted.now c.ends.i c.in-Some.first c.requires (omega arith) c.ends.invariant
    c.in-Some.ensures.some.0 c.in-Some.ensures.some.1

pub returns-clause-none : goal.returns-clause-none
returns-clause-none c =
    let all : c.ends.i ≡ length c.args.sorted.now = omega arith in
    none-at_all c.args.sorted.now (subst (NoneEnd c.args.sorted.now) all c.ends.invariant)
