-- How often a number occurs in a list.
use Rattle.rdm_log.proofs.Common.{◌≡◌, ℕ, suc, ◌+◌, ◌<◌, ◌≤◌, Bool, true, false, cond, List, [], ◌∷◌, ◌++◌, length, ap}
use Rattle.rdm_log.proofs.Common.{length-append, filter, map, if◌then◌else◌, refl, arith, inl, inr, ◌⊎◌, ◌==◌}
use Rattle.rdm_log.proofs.Common.{filter-append, cases_Bool, eqb-true, eq-eqb}

-- how often c occurs in a list
abbrev pub count : ℕ → List ℕ → ℕ
count c xs = length (filter (λ d. c == d) xs)

-- without the first c
abbrev without : ℕ → List ℕ → List ℕ
without c [] = []
without c (x ∷ xs) = if c == x then xs else x ∷ without c xs

-- how many pass a test, with one more in front or at the end
pub length_filter_cons : {X : Type 0} (p : X → Bool) (x : X) (xs : List X)
    → length (filter p (x ∷ xs)) ≡ (if p x then 1 else 0) + length (filter p xs)
length_filter_cons {X} p x xs = by_test (p x)
  where
    by_test : (b : Bool) → length (cond b (x ∷ filter p xs) (filter p xs)) ≡ (if b then 1 else 0) + length (filter p xs)
    by_test true = omega arith
    by_test false = omega arith

pub length_filter_push : {X : Type 0} (p : X → Bool) (xs : List X) (x : X)
    → length (filter p (xs ++ x ∷ [])) ≡ length (filter p xs) + (if p x then 1 else 0)
length_filter_push p xs x =
    omega (
      arith,
      ap length (filter-append p xs (x ∷ [])),
      length-append (filter p xs) (filter p (x ∷ [])),
      length_filter_cons p x [],
    )

-- of what f makes of a list
pub count-map : {X : Type 0} (f : X → ℕ) (c : ℕ) (xs : List X) → count c (map f xs) ≡ length (filter (λ x. c == f x) xs)
count-map f c [] = refl
count-map f c (x ∷ xs) =
    omega (
      arith,
      count-map f c xs,
      length_filter_cons (λ y. c == y) (f x) (map f xs),
      length_filter_cons (λ y. c == f y) x xs,
    )

-- without its first c a list has one c less, and is shorter by one
count_without : (c d : ℕ) (xs : List ℕ) → 0 < count c xs
    → count d xs ≡ (if d == c then 1 else 0) + count d (without c xs)
count_without c d [] has = absurd (omega arith)
count_without c d (x ∷ xs) has = by_first (cases_Bool (c == x)) (count_without c d xs)
  where
    by_first : ((c == x) ≡ true) ⊎ ((c == x) ≡ false)
        → (0 < count c xs → count d xs ≡ (if d == c then 1 else 0) + count d (without c xs))
        → count d (x ∷ xs) ≡ (if d == c then 1 else 0) + count d (without c (x ∷ xs))
    by_first (inl here) later = rw (here, eqb-true c x here) (length_filter_cons (λ y. d == y) x xs)
    by_first (inr there) later =
        rw there (omega (
          arith,
          length_filter_cons (λ y. d == y) x xs,
          length_filter_cons (λ y. d == y) x (without c xs),
          later (further there),
        ))
      where
        further : (c == x) ≡ false → 0 < count c xs
        further e = rw e at has

length_without : (c : ℕ) (xs : List ℕ) → 0 < count c xs → length xs ≡ suc (length (without c xs))
length_without c [] has = absurd (omega arith)
length_without c (x ∷ xs) has = by_first (cases_Bool (c == x)) (length_without c xs)
  where
    by_first : ((c == x) ≡ true) ⊎ ((c == x) ≡ false) → (0 < count c xs → length xs ≡ suc (length (without c xs)))
        → suc (length xs) ≡ suc (length (without c (x ∷ xs)))
    by_first (inl here) later = rw here refl
    by_first (inr there) later = rw there (omega (arith, later (rw there at has)))

-- c in front counts
count_self : (c : ℕ) (cs : List ℕ) → count c (c ∷ cs) ≡ suc (count c cs)
count_self c cs = rw (eq-eqb c c refl) refl

-- if no number occurs more often in cs than in ds, cs is no longer
pub no_longer : (cs ds : List ℕ) → ((c : ℕ) → count c cs ≤ count c ds) → length cs ≤ length ds
no_longer [] ds fewer = omega arith
no_longer (c ∷ cs) ds fewer =
    omega (
      arith,
      length_without c ds has,
      no_longer cs (without c ds)
          (λ d. omega (arith, fewer d, length_filter_cons (λ y. d == y) c cs, count_without c d ds has)),
    )
  where
    has : 0 < count c ds
    has = omega (arith, count_self c cs, fewer c)
