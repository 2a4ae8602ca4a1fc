use Rattle.std.proofs.Common.{subst}
use Rattle.std.specs.Prelude.{IfSome, IfNone}
use Rattle.rdm_line.specs.SimSteps.{NoFiveSuccessive}
use Rattle.rdm_files.specs.Losses.{IsFirstOfFive}
use Rattle.rdm_files.proofs.FiveLemmas.{some-permuted, none_found-permuted}
use Rattle.rdm_files.proofs.losses.five_losses.Goals as goal

pub returns-clause-some : goal.returns-clause-some
returns-clause-some c =
    some-permuted c.args.losses.now c.in_ok-sorted.sorted.items c.first_of_five.result c.in_ok-sorted.ensures.same
    (subst (λ xs. IfSome c.first_of_five.result (IsFirstOfFive xs)) c.deref.ensures.value c.first_of_five.ensures.some)

pub returns-clause-none : goal.returns-clause-none
returns-clause-none c =
    none_found-permuted c.args.losses.now c.in_ok-sorted.sorted.items c.first_of_five.result c.in_ok-sorted.ensures.same
    (subst (λ xs. IfNone c.first_of_five.result (NoFiveSuccessive xs)) c.deref.ensures.value
    c.first_of_five.ensures.none)
