-- The end of the first gap between stretches.
use Rattle.std.proofs.Common.{◌≡◌, ℕ, ◌+◌, ◌-◌, ◌<◌, ◌≤◌, ◌^◌, Bool, true, false, ◌&&◌, List, [], ◌∷◌, ◌++◌, Option}
use Rattle.std.proofs.Common.{Some, None, true≢false, refl, sym, ap, ◌∙◌, subst, inl, inr, length, take, get_or, arith}
use Rattle.std.specs.Prelude.{◌↔◌, IsSome, IfSome, nat_le, nat_lt, if◌then◌else◌}
use Rattle.std.proofs.lemmas.List.{take_more}
use Rattle.std.proofs.lemmas.Bool.{leb-true, leb-false, ltb-true, ltb-false}
use Rattle.rdm_explain.specs.declared.cover.Stretch.{Stretch}
use Rattle.rdm_explain.specs.declared.exchange.Exchange.{Exchange}
use Rattle.rdm_explain.specs.Exchanges.{seen_all}
use Rattle.rdm_explain.specs.Covers.{FirstUncovered, LastUncovered}
use Rattle.rdm_explain.specs.body.Covering.{In, IsIn, GapEnd, cover_state, nearer}
use Rattle.rdm_explain.proofs.CoverLemmas.{in_covered, covered_in}
use Rattle.rdm_explain.proofs.GapLemmas.{in_left, in_right, in_parts, in_front}

-- the numbers from u to before next are in none of the stretches, and next is, unless it is 2 ^ 48
pub record Opens (ss : List Stretch) (u next : ℕ) : Type 0 where
  pub from : u < next
  pub most : next ≤ 2 ^ 48
  pub each : (v : ℕ) → u ≤ v → v < next → IsIn ss v → ⊥
  pub ends : next < 2 ^ 48 → IsIn ss next

pub opens_at_first : (u : ℕ) → u < 2 ^ 48 → Opens [] u (2 ^ 48)
opens_at_first u low = record {
  from = low;
  most = omega arith;
  each = λ v more less h. h;
  ends = λ below. absurd (omega (arith, below));
}

pub opens_more : (ss : List Stretch) (i u next : ℕ) (s : Stretch) → i < length ss → get_or ss i s ≡ s
    → (IsIn ss u → ⊥) → Opens (take i ss) u next → Opens (take (i + 1) ss) u (nearer u s.lo s.hi next)
opens_more ss i u next s within is out opens =
    let whole : take (i + 1) ss ≡ take i ss ++ s ∷ [] = take_more ss i s within ∙ ap (λ x. take i ss ++ x ∷ []) is in
    subst (λ l. Opens l u (nearer u s.lo s.hi next)) (sym whole)
    (by_tests whole (nat_lt u s.lo) (nat_le s.lo s.hi) (nat_lt s.lo next) refl refl refl)
  where
    not_here : take (i + 1) ss ≡ take i ss ++ s ∷ [] → In s u → ⊥
    not_here whole here =
        out (in_front ss (i + 1) u
        (subst (λ l. IsIn l u) (sym whole) (in_right (take i ss) (s ∷ []) u (inl here))))

    apart : (n : ℕ) → n ≤ next → ((v : ℕ) → u ≤ v → v < n → In s v → ⊥) → (v : ℕ) → u ≤ v → v < n
        → IsIn (take i ss ++ s ∷ []) v → ⊥
    apart n most never v more less h = elim (in_parts (take i ss) (s ∷ []) v h) [
      | inl old ↦ opens.each v more (omega arith) old
      | inr (inl here) ↦ never v more less here
      | inr (inr none) ↦ none
    ]

    kept : ((v : ℕ) → u ≤ v → v < next → In s v → ⊥) → Opens (take i ss ++ s ∷ []) u next
    kept never = record {
      from = opens.from;
      most = opens.most;
      each = apart next (omega arith) never;
      ends = λ below. in_left (take i ss) (s ∷ []) next (opens.ends below);
    }

    begun : u < s.lo → s.lo ≤ s.hi → s.lo < next → Opens (take i ss ++ s ∷ []) u s.lo
    begun after upward before = record {
      from = after;
      most = omega (arith, opens.most);
      each = apart s.lo (omega arith) (λ v more less here. absurd (omega (arith, here.0)));
      ends = λ below. in_right (take i ss) (s ∷ []) s.lo (inl (omega arith, upward));
    }

    by_tests : take (i + 1) ss ≡ take i ss ++ s ∷ [] → (a b c : Bool) → nat_lt u s.lo ≡ a → nat_le s.lo s.hi ≡ b
        → nat_lt s.lo next ≡ c → Opens (take i ss ++ s ∷ []) u (if a && (b && c) then s.lo else next)
    by_tests whole true true true p q r = begun (ltb-true _ _ p) (leb-true _ _ q) (ltb-true _ _ r)
    by_tests whole true true false p q r =
        let later : next ≤ s.lo = ltb-false _ _ r in kept (λ v more less here. absurd (omega (arith, here.0)))
    by_tests whole true false c p q r =
        let turned : s.hi < s.lo = leb-false _ _ q in
        kept (λ v more less here. absurd (omega (arith, here.0, here.1)))
    by_tests whole false b c p q r =
        let below : s.lo ≤ u = ltb-false _ _ p in
        kept (λ v more less here. not_here whole (below, omega (arith, here.1)))

pub gap_ends : (ss : List Stretch) (u next : ℕ) (r : Option ℕ) → IsSome r ↔ (next - 1 < 2 ^ 48)
    → IfSome r (λ v. v ≡ next - 1) → Opens ss u next → GapEnd ss u r
gap_ends ss u next None is value opens =
    let low : next - 1 < 2 ^ 48 = omega (arith, opens.most, opens.from) in absurd (true≢false (sym (is.1 low)))
gap_ends ss u next (Some last) is value opens =
    let after : next ≡ last + 1 = omega (arith, value, opens.from) in record {
      from = omega (arith, opens.from);
      below = omega (arith, opens.most);
      each = λ v more most h. opens.each v more (omega arith) h;
      next = λ below. subst (IsIn ss) after (opens.ends (omega arith));
    }

pub not_in_covered : (xs : List Exchange) (u : ℕ) → FirstUncovered xs (Some u)
    → IsIn (cover_state (seen_all xs)).covered u → ⊥
not_in_covered xs u first h = first.uncovered (in_covered (seen_all xs) u h)

pub last_of : (xs : List Exchange) (u : ℕ) (r : Option ℕ) → GapEnd (cover_state (seen_all xs)).covered u r
    → LastUncovered xs (Some u) r
last_of xs u None gap = gap
last_of xs u (Some last) gap = record {
  from = gap.from;
  below = gap.below;
  each = λ v more most covered. gap.each v more most (covered_in (seen_all xs) v covered);
  next = λ below. in_covered (seen_all xs) (last + 1) (gap.next below);
}
