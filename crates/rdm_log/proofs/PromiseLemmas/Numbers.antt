-- Numbers that rise by one.
use Rattle.rdm_log.proofs.Common.{◌≡◌, ℕ, zero, suc, ◌+◌, ◌-◌, ◌<◌, ◌≤◌, true, false, List, [], ◌∷◌, ◌++◌, length, map}
use Rattle.rdm_log.proofs.Common.{filter, Some, slice_get, refl, ap, add-zero, inl, inr, arith, ◌⊎◌, ◌==◌}
use Rattle.rdm_log.proofs.Common.{range_with_len, cases_Bool, eqb-true}
use Rattle.std.proofs.lemmas.Bool.{eqb-false}

-- the first m of n, and the rest
pub range_parts : (a m n : ℕ) → m ≤ n → range_with_len a n ≡ range_with_len a m ++ range_with_len (a + m) (n - m)
range_parts a zero n within = let all : n - 0 ≡ n = omega arith in rw (add-zero, all) refl
range_parts a (suc m) zero within = absurd (omega arith)
range_parts a (suc m) (suc n) within =
    let next : (a + 1) + m ≡ a + suc m = omega arith in
    let left : suc n - suc m ≡ n - m = omega arith in
    rw (left, ← next) (ap (λ l. a ∷ l) (range_parts (a + 1) m n (omega arith)))

-- what has its numbers by its indices
pub numbers_by_index : {X : Type 0} (f : X → ℕ) (xs : List X) (a : ℕ)
    → ((i : ℕ) (x : X) → slice_get xs i ≡ Some x → f x ≡ a + i) → map f xs ≡ range_with_len a (length xs)
numbers_by_index f [] a at = refl
numbers_by_index f (x ∷ xs) a at =
    rw (at 0 x refl, add-zero)
    (ap (λ l. a ∷ l) (numbers_by_index f xs (a + 1) (λ i y e. omega (arith, at (suc i) y e))))

-- how often one of them occurs there
pub count_outside : (n a m : ℕ) → (n < a) ⊎ (a + m ≤ n) → length (filter (λ k. n == k) (range_with_len a m)) ≡ 0
count_outside n a zero out = refl
count_outside n a (suc m) out = by_first (cases_Bool (n == a)) out (count_outside n (a + 1) m)
  where
    by_first : ((n == a) ≡ true) ⊎ ((n == a) ≡ false) → (n < a) ⊎ (a + suc m ≤ n)
        → ((n < a + 1) ⊎ ((a + 1) + m ≤ n) → length (filter (λ k. n == k) (range_with_len (a + 1) m)) ≡ 0)
        → length (filter (λ k. n == k) (range_with_len a (suc m))) ≡ 0
    by_first (inl here) (inl below) later = absurd (omega (arith, eqb-true n a here))
    by_first (inl here) (inr above) later = absurd (omega (arith, eqb-true n a here))
    by_first (inr there) (inl below) later = rw there (later (inl (omega arith)))
    by_first (inr there) (inr above) later = rw there (later (inr (omega arith)))

pub count_within : (n a m : ℕ) → a ≤ n → n < a + m → length (filter (λ k. n == k) (range_with_len a m)) ≡ 1
count_within n a zero from to = absurd (omega arith)
count_within n a (suc m) from to = by_first (cases_Bool (n == a)) (count_within n (a + 1) m)
  where
    by_first : ((n == a) ≡ true) ⊎ ((n == a) ≡ false)
        → (a + 1 ≤ n → n < (a + 1) + m → length (filter (λ k. n == k) (range_with_len (a + 1) m)) ≡ 1)
        → length (filter (λ k. n == k) (range_with_len a (suc m))) ≡ 1
    by_first (inl here) later = rw here (ap suc (count_outside n (a + 1) m (inl (omega (arith, eqb-true n a here)))))
    by_first (inr there) later = rw there (later (omega (arith, eqb-false n a there)) (omega arith))
