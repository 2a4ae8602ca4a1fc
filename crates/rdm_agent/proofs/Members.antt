-- Members of lists of UIDs.
use Rattle.rdm_agent.proofs.Common.{◌≡◌, ℕ, true, ◌||◌, List, [], ◌∷◌, ◌++◌, Option, Some, None, refl, sym, ap, ◌∙◌}
use Rattle.rdm_agent.proofs.Common.{inl, inr, true≢false, ◌⊎◌, ◌==◌, AllByRecursion, cons_option, eqb-true, eq-eqb}
use Rattle.rdm_agent.proofs.Common.{or_cases, or-true, has}

-- a member of a list is one of it with one more in front, and the one in front is
pub has-put : (o : Option ℕ) (us : List ℕ) (u : ℕ) → has us u ≡ true → has (cons_option o us) u ≡ true
has-put None us u h = h
has-put (Some v) us u h = ap (λ b. (u == v) || b) h ∙ or-true (u == v)

pub has-first : (o : Option ℕ) (us : List ℕ) (u : ℕ) → o ≡ Some u → has (cons_option o us) u ≡ true
has-first o us u e = rw e (ap (λ b. b || has us u) (eq-eqb u u refl))

-- a member is in front or in the rest
pub put-has : (o : Option ℕ) (us : List ℕ) (u : ℕ) → has (cons_option o us) u ≡ true → (o ≡ Some u) ⊎ (has us u ≡ true)
put-has None us u h = inr h
put-has (Some v) us u h =
    elim (or_cases (u == v) (has us u) h) [ inl e ↦ inl (ap Some (sym (eqb-true u v e))) | inr i ↦ inr i ]

-- what holds of each holds of a member
pub member : (P : ℕ → Type 0) (us : List ℕ) (u : ℕ) → AllByRecursion P us → has us u ≡ true → P u
member P [] u all h = absurd (true≢false (sym h))
member P (v ∷ us) u all h =
    elim (or_cases (u == v) (has us u) h)
    [ inl e ↦ subst_member (eqb-true u v e) all.0 | inr i ↦ member P us u all.1 i ]
  where
    subst_member : u ≡ v → P v → P u
    subst_member e p = rw e p

-- of both parts of a list
pub first_part : {X : Type 0} (P : X → Type 0) (xs ys : List X) → AllByRecursion P (xs ++ ys) → AllByRecursion P xs
first_part P [] ys all = tt
first_part P (x ∷ xs) ys all = (all.0, first_part P xs ys all.1)

pub last_part : {X : Type 0} (P : X → Type 0) (xs ys : List X) → AllByRecursion P (xs ++ ys) → AllByRecursion P ys
last_part P [] ys all = all
last_part P (x ∷ xs) ys all = last_part P xs ys all.1

-- equal lists begin alike, and go on alike
pub heads : {X : Type 0} {x y : X} {xs ys : List X} → x ∷ xs ≡ y ∷ ys → x ≡ y
heads same = cc

pub tails : {X : Type 0} {x y : X} {xs ys : List X} → x ∷ xs ≡ y ∷ ys → xs ≡ ys
tails same = cc
