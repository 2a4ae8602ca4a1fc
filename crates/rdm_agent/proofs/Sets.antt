-- Ascending lists as sets.
use Rattle.rdm_agent.proofs.Common.{◌≡◌, ℕ, ◌<◌, Bool, true, false, ◌||◌, cond, List, [], ◌∷◌, ◌++◌, length, ◌+◌, fold}
use Rattle.rdm_agent.proofs.Common.{take, zero, suc, refl, sym, ap, ◌∙◌, inl, inr, true≢false, arith, ◌⊎◌, ◌==◌, nat_lt}
use Rattle.rdm_agent.proofs.Common.{AllByRecursion, eqb-true, eq-eqb, or_cases, cases_Bool, cond-false, or-true, has}
use Rattle.rdm_agent.proofs.Common.{IsAscending, with_uid, set_of, once}
use Rattle.std.proofs.lemmas.Bool.{or_parts, cond-true}
use Rattle.std.proofs.Math.Bool.{or-false}
use Rattle.std.proofs.lemmas.List.Sums.{fold_push}
use Rattle.rdm_wire.specs.Lists.{with_new}
use Rattle.rdm_wire.proofs.SetLemmas.{ascending-with_uid, has-with_uid, swapped}
use Rattle.rdm_agent.proofs.Members.{member}

-- a member of a list in front of which another stands
pub has-rest : (v : ℕ) (us : List ℕ) (u : ℕ) → has us u ≡ true → has (v ∷ us) u ≡ true
has-rest v us u h = ap (λ b. (u == v) || b) h ∙ or-true (u == v)

pub has-head : (u : ℕ) (us : List ℕ) → has (u ∷ us) u ≡ true
has-head u us = ap (λ b. b || has us u) (eq-eqb u u refl)

has-at : (w v : ℕ) (vs : List ℕ) → w ≡ v → has (v ∷ vs) w ≡ true
has-at w v vs e = ap (λ b. b || has vs w) (eq-eqb w v e)

-- what holds of each member holds of each element
pub each_member : (P : ℕ → Type 0) (us : List ℕ) → ((u : ℕ) → has us u ≡ true → P u) → AllByRecursion P us
each_member P [] each = tt
each_member P (u ∷ us) each = (each u (has-head u us), each_member P us (λ v here. each v (has-rest u us v here)))

-- ascending lists with the same members are equal
pub same_members : (us vs : List ℕ) → IsAscending us → IsAscending vs → ((w : ℕ) → has us w ≡ true → has vs w ≡ true)
    → ((w : ℕ) → has vs w ≡ true → has us w ≡ true) → us ≡ vs
same_members [] [] a b f g = refl
same_members [] (v ∷ vs) a b f g = absurd (true≢false (sym (g v (has-head v vs))))
same_members (u ∷ us) [] a b f g = absurd (true≢false (sym (f u (has-head u us))))
same_members (u ∷ us) (v ∷ vs) a b f g = rw (heads, same_members us vs a.1 b.1 down up) refl
  where
    heads : u ≡ v
    heads = elim (or_cases (u == v) (has vs u) (f u (has-head u us))) [
      | inl is ↦ eqb-true u v is
      | inr above ↦ elim (or_cases (v == u) (has us v) (g v (has-head v vs))) [
        | inl is ↦ sym (eqb-true v u is)
        | inr below ↦ let p : v < u = member (λ w. v < w) vs u b.0 above in
            let q : u < v = member (λ w. u < w) us v a.0 below in omega arith
      ]
    ]

    down : (w : ℕ) → has us w ≡ true → has vs w ≡ true
    down w h = elim (or_cases (w == v) (has vs w) (f w (has-rest u us w h))) [
      | inl is ↦ let p : u < w = member (λ w. u < w) us w a.0 h in let q : w ≡ v = eqb-true w v is in
          let r : u ≡ v = heads in absurd (no_order p q r)
      | inr rest ↦ rest
    ]
      where
        no_order : u < w → w ≡ v → u ≡ v → ⊥
        no_order p q r = omega arith

    up : (w : ℕ) → has vs w ≡ true → has us w ≡ true
    up w h = elim (or_cases (w == u) (has us w) (g w (has-rest v vs w h))) [
      | inl is ↦ let p : v < w = member (λ w. v < w) vs w b.0 h in let q : w ≡ u = eqb-true w u is in
          let r : u ≡ v = heads in absurd (no_order p q r)
      | inr rest ↦ rest
    ]
      where
        no_order : v < w → w ≡ u → u ≡ v → ⊥
        no_order p q r = omega arith

pub ascending-set_of : (us : List ℕ) → IsAscending (set_of us)
ascending-set_of [] = tt
ascending-set_of (u ∷ us) = ascending-with_uid u (set_of us) (ascending-set_of us)

-- a set's members are the list's
pub has-set_of : (us : List ℕ) (w : ℕ) → has (set_of us) w ≡ has us w
has-set_of [] w = refl
has-set_of (u ∷ us) w = has-with_uid u (set_of us) w ∙ ap (λ b. (w == u) || b) (has-set_of us w)

-- lists with the same members are the same set
pub same_sets : (us vs : List ℕ) → ((w : ℕ) → has us w ≡ has vs w) → set_of us ≡ set_of vs
same_sets us vs same = same_members (set_of us) (set_of vs) (ascending-set_of us) (ascending-set_of vs)
    (λ w h. has-set_of vs w ∙ sym (same w) ∙ sym (has-set_of us w) ∙ h)
    (λ w h. has-set_of us w ∙ same w ∙ sym (has-set_of vs w) ∙ h)

-- a new member makes a set longer by one
pub length-with_uid : (u : ℕ) (vs : List ℕ) → has vs u ≡ false → length (with_uid u vs) ≡ length vs + 1
length-with_uid u [] new = omega arith
length-with_uid u (v ∷ vs) new =
    by_test (nat_lt u v) (u == v) (or_parts (u == v) (has vs u) new) (λ n. length-with_uid u vs n)
  where
    by_test : (b c : Bool) → (c ≡ false) × (has vs u ≡ false)
        → (has vs u ≡ false → length (with_uid u vs) ≡ length vs + 1)
        → length (cond b (u ∷ v ∷ vs) (cond c (v ∷ vs) (v ∷ with_uid u vs))) ≡ length (v ∷ vs) + 1
    by_test true c parts onward = omega arith
    by_test false true parts onward = absurd (true≢false parts.0)
    by_test false false parts onward = let longer = onward parts.1 in omega arith

has-push : (us : List ℕ) (u w : ℕ) → has (us ++ u ∷ []) w ≡ ((w == u) || has us w)
has-push [] u w = refl
has-push (v ∷ us) u w = ap (λ b. (w == v) || b) (has-push us u w) ∙ swapped (w == v) (w == u) (has us w)

-- one that is there already adds no member
has-again : (us : List ℕ) (u w : ℕ) → has us u ≡ true → ((w == u) || has us w) ≡ has us w
has-again us u w here = by_test (cases_Bool (w == u))
  where
    by_test : ((w == u) ≡ true) ⊎ ((w == u) ≡ false) → ((w == u) || has us w) ≡ has us w
    by_test (inl is) = rw (eqb-true w u is, here) (or-true (u == u))
    by_test (inr other) = rw other refl

-- what a list's end adds to its set
pub set_of-push : (us : List ℕ) (u : ℕ) → set_of (us ++ u ∷ []) ≡ with_uid u (set_of us)
set_of-push us u = same_sets (us ++ u ∷ []) (u ∷ us) (λ w. has-push us u w)

pub set_of-again : (us : List ℕ) (u : ℕ) → has us u ≡ true → set_of (us ++ u ∷ []) ≡ set_of us
set_of-again us u here = same_sets (us ++ u ∷ []) us (λ w. has-push us u w ∙ has-again us u w here)

-- without repeats a list has the same members
has-with_new : (us : List ℕ) (u w : ℕ) → has (with_new us u) w ≡ ((w == u) || has us w)
has-with_new us u w = by_test (has us u) refl
  where
    by_test : (b : Bool) → has us u ≡ b → has (cond b us (us ++ u ∷ [])) w ≡ ((w == u) || has us w)
    by_test true here = sym (has-again us u w here)
    by_test false new = has-push us u w

has-without_repeats : (us vs : List ℕ) (w : ℕ) → has (fold with_new us vs) w ≡ (has vs w || has us w)
has-without_repeats us [] w = refl
has-without_repeats us (v ∷ vs) w =
    has-without_repeats (with_new us v) vs w ∙ ap (λ b. has vs w || b) (has-with_new us v w)
    ∙ swapped_first (has vs w) (w == v) (has us w)
  where
    swapped_first : (a b c : Bool) → (a || (b || c)) ≡ ((b || a) || c)
    swapped_first true true c = refl
    swapped_first true false c = refl
    swapped_first false true c = refl
    swapped_first false false c = refl

pub has-once : (us : List ℕ) (w : ℕ) → has (once us) w ≡ has us w
has-once us w = has-without_repeats [] us w ∙ or-false (has us w)

-- and is the same set
pub set_of-once : (us : List ℕ) → set_of (once us) ≡ set_of us
set_of-once us = same_sets (once us) us (λ w. has-once us w)

-- a list's end, without repeats
pub once-again : (us : List ℕ) (u : ℕ) → has us u ≡ true → once (us ++ u ∷ []) ≡ once us
once-again us u here =
    fold_push with_new [] us u ∙ cond-true (has (once us) u) (once us) (once us ++ u ∷ []) (has-once us u ∙ here)

pub once-new : (us : List ℕ) (u : ℕ) → has us u ≡ false → once (us ++ u ∷ []) ≡ once us ++ u ∷ []
once-new us u new =
    fold_push with_new [] us u ∙ cond-false (has (once us) u) (once us) (once us ++ u ∷ []) (has-once us u ∙ new)

-- a member of a list's front is the list's
pub has-take : (n : ℕ) (us : List ℕ) (u : ℕ) → has (take n us) u ≡ true → has us u ≡ true
has-take zero us u h = absurd (true≢false (sym h))
has-take (suc n) [] u h = absurd (true≢false (sym h))
has-take (suc n) (v ∷ us) u h = elim (or_cases (u == v) (has (take n us) u) h) [
  | inl is ↦ has-at u v us (eqb-true u v is)
  | inr rest ↦ has-rest v us u (has-take n us u rest)
]
