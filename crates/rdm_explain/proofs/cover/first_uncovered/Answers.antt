use Rattle.std.proofs.Common.{sym, subst, rules}
use Rattle.std.proofs.lemmas.List.Sorted.{IsNonDecreasingBy-from_sort_by_key}
use Rattle.rdm_explain.specs.declared.cover.Stretch.{Stretch}
use Rattle.rdm_explain.specs.body.Covering.{FirstGap}
use Rattle.rdm_explain.proofs.GapLemmas.{Ascends}
use Rattle.rdm_explain.proofs.SortedLemmas.{uncovered_of}
use Rattle.rdm_explain.proofs.cover.first_uncovered.Goals as goal

pub first_gap-requires : goal.first_gap-requires
first_gap-requires c =
    subst Ascends (sym c.deref.ensures.value)
    (IsNonDecreasingBy-from_sort_by_key (λ (s : Stretch). s.lo) _ c.sort_unstable_by_key.ensures.sorted
    (λ a r q k. search rules))

pub returns : goal.returns
returns c =
    uncovered_of c.args.exchanges.now _ _ c.first_gap.result c.in_ok-covered.ensures
    c.sort_unstable_by_key.ensures.permutation
    (subst (λ l. FirstGap l c.first_gap.result) c.deref.ensures.value c.first_gap.ensures)
