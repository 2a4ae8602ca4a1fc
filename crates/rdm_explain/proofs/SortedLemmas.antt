-- Stretches in another order cover the same UIDs.
use Rattle.std.proofs.Common.{◌≡◌, ℕ, zero, suc, ◌<◌, List, [], ◌∷◌, Option, Some, None, sym, subst, inl, inr, length}
use Rattle.std.proofs.Common.{get_or, arith}
use Rattle.std.specs.List.{Contains}
use Rattle.std.specs.List.Sorted.{IsPermutation}
use Rattle.std.proofs.lemmas.List.Sorted.{IsPermutation-sym, Contains-permutation}
use Rattle.rdm_explain.specs.declared.cover.Stretch.{Stretch}
use Rattle.rdm_explain.specs.declared.exchange.Exchange.{Exchange}
use Rattle.rdm_explain.specs.Exchanges.{seen_all}
use Rattle.rdm_explain.specs.Covers.{FirstUncovered}
use Rattle.rdm_explain.specs.body.Covering.{In, IsIn, FirstGap, cover_state}
use Rattle.std.proofs.lemmas.List.Elements.{Contains-get_or}
use Rattle.rdm_explain.proofs.GapLemmas.{at_of}
use Rattle.rdm_explain.proofs.CoverLemmas.{in_covered, covered_in}

-- the stretch that has u
holder : (ss : List Stretch) (u : ℕ) → IsIn ss u → (s : Stretch) × Contains ss s × In s u
holder [] u h = absurd h
holder (s ∷ ss) u h =
    let at = at_of (s ∷ ss) u s h in
    (get_or (s ∷ ss) at.j s, Contains-get_or (s ∷ ss) at.j s at.within, at.here)

held_at : (ss : List Stretch) (u : ℕ) (s : Stretch) (k : ℕ) → k < length ss → get_or ss k s ≡ s → In s u → IsIn ss u
held_at [] u s k within is i = absurd (omega arith)
held_at (t ∷ ss) u s zero within is i = inl (subst (λ x. In x u) (sym is) i)
held_at (t ∷ ss) u s (suc k) within is i = inr (held_at ss u s k (omega arith) is i)

in_permutation : (ss ts : List Stretch) (u : ℕ) → IsPermutation ss ts → IsIn ss u → IsIn ts u
in_permutation ss ts u same h =
    let held = holder ss u h in
    let there = Contains-permutation ss ts held.0 same held.1 in
    held_at ts u held.0 there.0 there.1 there.2 held.2

pub uncovered_of : (xs : List Exchange) (ss ts : List Stretch) (r : Option ℕ)
    → ss ≡ (cover_state (seen_all xs)).covered → IsPermutation ss ts → FirstGap ts r → FirstUncovered xs r
uncovered_of xs ss ts None is same gap =
    λ u below. in_covered (seen_all xs) u
    (subst (λ l. IsIn l u) is (in_permutation ts ss u (IsPermutation-sym ss ts same) (gap u below)))
uncovered_of xs ss ts (Some g) is same gap = record {
  below = gap.below;
  uncovered = λ covered. gap.gap
      (in_permutation ss ts g same (subst (λ l. IsIn l g) (sym is) (covered_in (seen_all xs) g covered)));
  before = λ v less. in_covered (seen_all xs) v
      (subst (λ l. IsIn l v) is (in_permutation ts ss v (IsPermutation-sym ss ts same) (gap.before v less)));
}
