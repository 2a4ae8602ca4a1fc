-- The first gap between stretches that ascend by their lower bounds.
use Rattle.std.proofs.Common.{◌≡◌, ℕ, zero, suc, ◌+◌, ◌<◌, ◌≤◌, ◌^◌, Bool, true, false, List, [], ◌∷◌, ◌++◌, Option}
use Rattle.std.proofs.Common.{Some, None, true≢false, refl, sym, ap, ◌∙◌, subst, inl, inr, length, take, drop, get_or}
use Rattle.std.proofs.Common.{arith}
use Rattle.std.specs.Prelude.{◌⊎◌, ◌↔◌, IsSome, IfSome, nat_le, if◌then◌else◌}
use Rattle.std.specs.List.{AllByRecursion}
use Rattle.std.specs.List.Sorted.{IsNonDecreasingBy}
use Rattle.std.proofs.lemmas.List.{take_more, take-append-drop}
use Rattle.std.proofs.lemmas.Bool.{cases_lt, leb-true, leb-false}
use Rattle.rdm_explain.specs.declared.cover.Stretch.{Stretch}
use Rattle.rdm_explain.specs.body.Covering.{In, IsIn, FirstGap, IsFirstGap}
use Rattle.rdm_explain.proofs.EndLemmas.{all_append}

pub in_left : (ss ts : List Stretch) (u : ℕ) → IsIn ss u → IsIn (ss ++ ts) u
in_left [] ts u h = absurd h
in_left (s ∷ ss) ts u (inl i) = inl i
in_left (s ∷ ss) ts u (inr h) = inr (in_left ss ts u h)

pub in_right : (ss ts : List Stretch) (u : ℕ) → IsIn ts u → IsIn (ss ++ ts) u
in_right [] ts u h = h
in_right (s ∷ ss) ts u h = inr (in_right ss ts u h)

pub in_parts : (ss ts : List Stretch) (u : ℕ) → IsIn (ss ++ ts) u → IsIn ss u ⊎ IsIn ts u
in_parts [] ts u h = inr h
in_parts (s ∷ ss) ts u (inl i) = inl (inl i)
in_parts (s ∷ ss) ts u (inr h) = elim (in_parts ss ts u h) [ inl i ↦ inl (inr i) | inr i ↦ inr i ]

pub in_front : (ss : List Stretch) (i u : ℕ) → IsIn (take i ss) u → IsIn ss u
in_front ss i u h = subst (λ l. IsIn l u) (take-append-drop i ss) (in_left (take i ss) (drop i ss) u h)

-- the stretch that u is in
pub record At (ss : List Stretch) (u : ℕ) (d : Stretch) : Type 0 where
  pub j : ℕ
  pub within : j < length ss
  pub here : In (get_or ss j d) u

pub at_of : (ss : List Stretch) (u : ℕ) (d : Stretch) → IsIn ss u → At ss u d
at_of [] u d h = absurd h
at_of (s ∷ ss) u d (inl i) = record { j = 0; within = omega arith; here = i }
at_of (s ∷ ss) u d (inr h) =
    let later = at_of ss u d h in record { j = suc later.j; within = omega (arith, later.within); here = later.here }

abbrev pub AllBelow : ℕ → List Stretch → Type 0
AllBelow n ss = AllByRecursion (λ (s : Stretch). s.hi < n) ss

below_at : (ss : List Stretch) (n i j : ℕ) (d : Stretch) → AllBelow n (take i ss) → j < i → j < length ss
    → (get_or ss j d).hi < n
below_at [] n i j d all less within = absurd (omega arith)
below_at (s ∷ ss) n zero j d all less within = absurd (omega arith)
below_at (s ∷ ss) n (suc i) zero d all less within = all.0
below_at (s ∷ ss) n (suc i) (suc j) d all less within = below_at ss n i j d all.1 (omega arith) (omega arith)

abbrev pub Ascends : List Stretch → Type 0
Ascends ss = IsNonDecreasingBy (λ (s : Stretch). s.lo) ss

-- no stretch has the number after those before i
not_in : (ss : List Stretch) (i next : ℕ) (d : Stretch) → Ascends ss → AllBelow next (take i ss)
    → (i < length ss → next < (get_or ss i d).lo) → IsIn ss next → ⊥
not_in ss i next d ascends all later h =
    let at = at_of ss next d h in by_order at.j at.within at.here (cases_lt at.j i)
  where
    by_order : (j : ℕ) → j < length ss → In (get_or ss j d) next → (j < i) ⊎ (i ≤ j) → ⊥
    by_order j within here (inl less) =
        let below : (get_or ss j d).hi < next = below_at ss next i j d all less within in omega (arith, here.1)
    by_order j within here (inr more) =
        let first : next < (get_or ss i d).lo = later (omega arith) in
        let up : (get_or ss i d).lo ≤ (get_or ss j d).lo = ascends i j d more within in omega (arith, here.0)

pub gap_is : (ss : List Stretch) (i next : ℕ) (d : Stretch) (r : Option ℕ) → IsSome r ↔ (next < 2 ^ 48)
    → IfSome r (λ u. u ≡ next) → next < 2 ^ 48 → Ascends ss → ((u : ℕ) → u < next → IsIn (take i ss) u)
    → AllBelow next (take i ss) → (i < length ss → next < (get_or ss i d).lo) → FirstGap ss r
gap_is ss i next d None is value low ascends covers all later = absurd (true≢false (sym (is.1 low)))
gap_is ss i next d (Some u) is value low ascends covers all later =
    subst (IsFirstGap ss) (sym value) (record {
      below = low;
      gap = not_in ss i next d ascends all later;
      before = λ v less. in_front ss i v (covers v less);
    })

abbrev pub Swept : List Stretch → ℕ → ℕ → Type 0
Swept ss i next =
    ((u : ℕ) → u < next → IsIn (take i ss) u) × AllBelow next (take i ss) × (next ≤ 2 ^ 48)

grow : (n m : ℕ) (ss : List Stretch) → n ≤ m → AllBelow n ss → AllBelow m ss
grow n m [] more all = tt
grow n m (s ∷ ss) more all = (omega (arith, all.0), grow n m ss more all.1)

pub swept_more : (ss : List Stretch) (i next : ℕ) (s : Stretch) → i < length ss → (get_or ss i s) ≡ s
    → s.lo ≤ next → s.hi < 2 ^ 48 → Swept ss i next
    → Swept ss (i + 1) (if nat_le next s.hi then s.hi + 1 else next)
swept_more ss i next s within is low high swept =
    let whole : take (i + 1) ss ≡ take i ss ++ s ∷ [] = take_more ss i s within ∙ ap (λ x. take i ss ++ x ∷ []) is in
    by_test (nat_le next s.hi) refl whole
  where
    Sweeps : ℕ → List Stretch → Type 0
    Sweeps n l = ((u : ℕ) → u < n → IsIn l u) × AllBelow n l × (n ≤ 2 ^ 48)

    more : (u : ℕ) → u < s.hi + 1 → (u < next) ⊎ (next ≤ u) → IsIn (take i ss ++ s ∷ []) u
    more u less (inl before) = in_left (take i ss) (s ∷ []) u (swept.0 u before)
    more u less (inr after) = in_right (take i ss) (s ∷ []) u (inl (omega arith, omega arith))

    by_test : (b : Bool) → nat_le next s.hi ≡ b → take (i + 1) ss ≡ take i ss ++ s ∷ []
        → Sweeps (if b then s.hi + 1 else next) (take (i + 1) ss)
    by_test true e whole =
        let reaches : next ≤ s.hi = leb-true _ _ e in
        subst (Sweeps (s.hi + 1)) (sym whole) (
          λ u less. more u less (cases_lt u next),
          all_append _ (take i ss) (s ∷ []) (grow next (s.hi + 1) (take i ss) (omega arith) swept.1) (omega arith, tt),
          omega arith,
        )
    by_test false e whole =
        let short : s.hi < next = leb-false _ _ e in
        subst (Sweeps next) (sym whole) (
          λ u less. in_left (take i ss) (s ∷ []) u (swept.0 u less),
          all_append _ (take i ss) (s ∷ []) swept.1 (short, tt),
          swept.2,
        )
