-- Ascending lists of UIDs: where a UID stands in one, and the set with one more.
use Rattle.std.proofs.Common.{◌≡◌, ℕ, zero, suc, ◌<◌, ◌≤◌, Bool, true, false, ◌||◌, cond, List, [], ◌∷◌, length, get_or}
use Rattle.std.proofs.Common.{Err, refl, sym, ap, ◌∙◌, inl, inr, true≢false, arith, Ok}
use Rattle.std.specs.Prelude.{◌==◌, nat_lt}
use Rattle.std.specs.List.{AllByRecursion, insert}
use Rattle.std.specs.List.Sorted.{IsBinarySearchResult}
use Rattle.std.specs.Ordering.{nat_cmp}
use Rattle.std.proofs.lemmas.List.Folds.{list_any_at}
use Rattle.std.proofs.lemmas.List.Sorted.{searched}
use Rattle.std.proofs.lemmas.Bool.{cases_order, eqb-false, eq-eqb, ne_eqb, lt-ltb, le-ltb, ltb-true, ltb-false}
use Rattle.std.proofs.lemmas.Bool.{eqb-true}
use Rattle.rdm_wire.specs.Uid.{has, IsAscending, IsDevice, IsDeviceSet, with_uid}

-- each is below those after it
pub above-at : (u : ℕ) (us : List ℕ) (j : ℕ) → AllByRecursion (λ v. u < v) us → j < length us → u < get_or us j 0
above-at u [] j all p = absurd (omega arith)
above-at u (v ∷ us) zero all p = all.0
above-at u (v ∷ us) (suc j) all p = above-at u us j all.1 (omega arith)

pub ascending-at : (us : List ℕ) → IsAscending us → (i j : ℕ) → i ≤ j → j < length us → get_or us i 0 ≤ get_or us j 0
ascending-at [] a i j p q = absurd (omega arith)
ascending-at (u ∷ us) a zero zero p q = omega arith
ascending-at (u ∷ us) a zero (suc j) p q = let h : u < get_or us j 0 = above-at u us j a.0 (omega arith) in omega arith
ascending-at (u ∷ us) a (suc i) zero p q = absurd (omega arith)
ascending-at (u ∷ us) a (suc i) (suc j) p q = ascending-at us a.1 i j (omega arith) (omega arith)

-- i is u's insertion index: what is before it is below u, and the others are above
pub record IsInsertionIndex (us : List ℕ) (u i : ℕ) : Type 0 where
  pub within : i ≤ length us
  pub below : (k : ℕ) → k < i → get_or us k 0 < u
  pub above : (k : ℕ) → i ≤ k → k < length us → u < get_or us k 0

pub insertion-rest : (u v : ℕ) (us : List ℕ) (i : ℕ) → IsInsertionIndex (v ∷ us) u (suc i) → IsInsertionIndex us u i
insertion-rest u v us i insertion = record {
  within = let p : suc i ≤ suc (length us) = insertion.within in omega arith;
  below = λ k p. insertion.below (suc k) (omega arith);
  above = λ k p q. insertion.above (suc k) (omega arith) (omega arith);
}

pub insertion-first : (u v : ℕ) (us : List ℕ) → IsInsertionIndex (v ∷ us) u zero → IsInsertionIndex us u zero
insertion-first u v us insertion = record {
  within = omega arith;
  below = λ k p. absurd (omega arith);
  above = λ k p q. insertion.above (suc k) (omega arith) (omega arith);
}

pub has-at_insertion : (u : ℕ) (us : List ℕ) (i : ℕ) → IsInsertionIndex us u i → has us u ≡ false
has-at_insertion u [] i insertion = refl
has-at_insertion u (v ∷ us) zero insertion =
    let p : u < v = insertion.above 0 (omega arith) (omega arith) in
    rw (ne_eqb u v (omega arith)) (has-at_insertion u us zero (insertion-first u v us insertion))
has-at_insertion u (v ∷ us) (suc i) insertion =
    let p : v < u = insertion.below 0 (omega arith) in
    rw (ne_eqb u v (omega arith)) (has-at_insertion u us i (insertion-rest u v us i insertion))

pub with_uid-insert : (u : ℕ) (us : List ℕ) (i : ℕ) → IsInsertionIndex us u i → with_uid u us ≡ insert us i u
with_uid-insert u [] zero insertion = refl
with_uid-insert u [] (suc i) insertion = let p : suc i ≤ 0 = insertion.within in absurd (omega arith)
with_uid-insert u (v ∷ us) zero insertion =
    let p : u < v = insertion.above 0 (omega arith) (omega arith) in rw (lt-ltb u v p) refl
with_uid-insert u (v ∷ us) (suc i) insertion =
    let p : v < u = insertion.below 0 (omega arith) in
    rw (le-ltb u v (omega arith), ne_eqb u v (omega arith))
    (ap (λ l. v ∷ l) (with_uid-insert u us i (insertion-rest u v us i insertion)))

-- what is below the first stands before it
pub insertion-before : (u : ℕ) (v : ℕ) (vs : List ℕ) → IsAscending (v ∷ vs) → u < v → IsInsertionIndex (v ∷ vs) u zero
insertion-before u v vs a less = record {
  within = omega arith;
  below = λ k p. absurd (omega arith);
  above = λ k p q. let least : v ≤ get_or (v ∷ vs) k 0 = ascending-at (v ∷ vs) a 0 k (omega arith) q in omega arith;
}

-- a set isn't changed by a UID that is in it
pub with_uid-present : (u : ℕ) (us : List ℕ) → IsAscending us → has us u ≡ true → with_uid u us ≡ us
with_uid-present u [] a h = absurd (true≢false (sym h))
with_uid-present u (v ∷ us) a h =
    elim (cases_order u v) [
      | inl same ↦ rw (le-ltb u v (omega arith), eq-eqb u v same) refl
      | inr (inl less) ↦ absurd (true≢false (sym h ∙ has-at_insertion u (v ∷ us) zero (insertion-before u v us a less)))
      | inr (inr more) ↦ rw (le-ltb u v (omega arith), ne_eqb u v (omega arith))
          (ap (λ l. v ∷ l) (with_uid-present u us a.1 (rw (ne_eqb u v (omega arith)) at h)))
    ]

-- what holds of all and of u holds of all with u
pub all-with_uid : (P : ℕ → Type 0) (u : ℕ) (us : List ℕ) → P u → AllByRecursion P us → AllByRecursion P (with_uid u us)
all-with_uid P u [] p all = (p, tt)
all-with_uid P u (v ∷ us) p all = by_test (nat_lt u v) (u == v) (all-with_uid P u us p all.1)
  where
    by_test : (b c : Bool) → AllByRecursion P (with_uid u us)
        → AllByRecursion P (cond b (u ∷ v ∷ us) (cond c (v ∷ us) (v ∷ with_uid u us)))
    by_test true c rest = (p, all)
    by_test false true rest = all
    by_test false false rest = (all.0, rest)

pub above_more : (n m : ℕ) (us : List ℕ) → n < m → AllByRecursion (λ w. m < w) us → AllByRecursion (λ w. n < w) us
above_more n m [] p all = tt
above_more n m (v ∷ us) p all = let q : m < v = all.0 in (omega arith, above_more n m us p all.1)

pub ascending-with_uid : (u : ℕ) (us : List ℕ) → IsAscending us → IsAscending (with_uid u us)
ascending-with_uid u [] a = (tt, tt)
ascending-with_uid u (v ∷ us) a = by_test (nat_lt u v) (u == v) refl refl (ascending-with_uid u us a.1)
  where
    above : (nat_lt u v ≡ false) → ((u == v) ≡ false) → v < u
    above p q = let r : v ≤ u = ltb-false u v p in let s : u ≡ v → ⊥ = eqb-false u v q in grind arith

    by_test : (b c : Bool) → nat_lt u v ≡ b → (u == v) ≡ c → IsAscending (with_uid u us)
        → IsAscending (cond b (u ∷ v ∷ us) (cond c (v ∷ us) (v ∷ with_uid u us)))
    by_test true c p q rest = let r : u < v = ltb-true u v p in ((r, above_more u v us r a.0), a)
    by_test false true p q rest = a
    by_test false false p q rest = (all-with_uid (λ w. v < w) u us (above p q) a.0, rest)

pub devices-with_uid : (u : ℕ) (us : List ℕ) → IsDevice u → IsDeviceSet us → IsDeviceSet (with_uid u us)
devices-with_uid u us d s =
    record { devices = all-with_uid IsDevice u us d s.devices; ascending = ascending-with_uid u us s.ascending }

pub swapped : (a b c : Bool) → (a || (b || c)) ≡ (b || (a || c))
swapped true true c = refl
swapped true false c = refl
swapped false b c = refl

-- a member of a set with one more is it or was there
pub has-with_uid : (u : ℕ) (vs : List ℕ) (w : ℕ) → has (with_uid u vs) w ≡ ((w == u) || has vs w)
has-with_uid u [] w = refl
has-with_uid u (v ∷ vs) w = by_test (nat_lt u v) (u == v) refl (has-with_uid u vs w)
  where
    twice : (a b : Bool) → (a || b) ≡ (a || (a || b))
    twice true b = refl
    twice false b = refl

    by_test : (b c : Bool) → (u == v) ≡ c → has (with_uid u vs) w ≡ ((w == u) || has vs w)
        → has (cond b (u ∷ v ∷ vs) (cond c (v ∷ vs) (v ∷ with_uid u vs))) w ≡ ((w == u) || ((w == v) || has vs w))
    by_test true c same rest = refl
    by_test false true same rest = rw (eqb-true u v same) (twice (w == v) (has vs w))
    by_test false false same rest = ap (λ b. (w == v) || b) rest ∙ swapped (w == v) (w == u) (has vs w)

-- what a search by halves says, where it finds u and where it doesn't
pub search-there : (us : List ℕ) (u i : ℕ) → IsBinarySearchResult (λ v. nat_cmp v u) us (Ok i) → IsAscending us
    → has us u ≡ true
search-there us u i found a =
    let at : (i < length us) × (get_or us i 0 ≡ u) = searched us u (Ok i) found (ascending-at us a) in
    list_any_at (λ v. u == v) us i 0 at.0 (eq-eqb u (get_or us i 0) (sym at.1))

pub search-absent : (us : List ℕ) (u i : ℕ) → IsBinarySearchResult (λ v. nat_cmp v u) us (Err i) → IsAscending us
    → IsInsertionIndex us u i
search-absent us u i found a =
    let at : (i ≤ length us) × ((k : ℕ) → k < i → get_or us k 0 < u)
    × ((k : ℕ) → i ≤ k → k < length us → u < get_or us k 0) = searched us u (Err i) found (ascending-at us a) in
    record { within = at.0; below = at.1; above = at.2 }
