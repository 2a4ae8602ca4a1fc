-- How many devices of a range are left.
use Rattle.rdm_agent.proofs.Common.{◌≡◌, ℕ, ◌+◌, ◌<◌, ◌≤◌, Bool, true, false, ◌&&◌, not, cond, List, [], ◌∷◌, length}
use Rattle.rdm_agent.proofs.Common.{refl, sym, ap, ◌∙◌, subst, inl, inr, true≢false, arith, filter, ◌==◌, ◌⊎◌}
use Rattle.rdm_agent.proofs.Common.{AllByRecursion, le-leb, cases_lt, cases_Bool, or_cases, eqb-true, has, is_within}
use Rattle.rdm_agent.proofs.Common.{IsAscending}
use Rattle.std.proofs.lemmas.Bool.{lt-leb}
use Rattle.rdm_agent.proofs.Potential.{is_left, left_in}
use Rattle.rdm_agent.proofs.Members.{heads}
use Rattle.rdm_agent.proofs.Sets.{has-head, has-rest}

-- what a test counts of one
abbrev counts : Bool → ℕ
counts b = cond b 1 0

length-chosen : (b : Bool) (u : ℕ) (us : List ℕ) → length (cond b (u ∷ us) us) ≡ counts b + length us
length-chosen true u us = omega arith
length-chosen false u us = omega arith

-- a stricter test leaves no more
pub no_more : (t s : ℕ → Bool) (us : List ℕ) → ((u : ℕ) → s u ≡ true → t u ≡ true)
    → length (filter s us) ≤ length (filter t us)
no_more t s [] stricter = omega arith
no_more t s (u ∷ us) stricter = by_test (cases_Bool (s u)) (cases_Bool (t u)) (no_more t s us stricter)
  where
    by_test : (s u ≡ true) ⊎ (s u ≡ false) → (t u ≡ true) ⊎ (t u ≡ false) → length (filter s us) ≤ length (filter t us)
        → length (filter s (u ∷ us)) ≤ length (filter t (u ∷ us))
    by_test (inl p) (inl q) rest = rw (p, q) (omega (arith, rest))
    by_test (inl p) (inr q) rest = absurd (true≢false (sym (stricter u p) ∙ q))
    by_test (inr p) (inl q) rest = rw (p, q) (omega (arith, rest))
    by_test (inr p) (inr q) rest = rw (p, q) rest

-- one that leaves out a member leaves one fewer
pub one_fewer : (t s : ℕ → Bool) (us : List ℕ) (v : ℕ) → ((u : ℕ) → s u ≡ true → t u ≡ true) → t v ≡ true → s v ≡ false
    → has us v ≡ true → length (filter s us) + 1 ≤ length (filter t us)
one_fewer t s [] v stricter was now here = absurd (true≢false (sym here))
one_fewer t s (u ∷ us) v stricter was now here =
    by_position (or_cases (v == u) (has us v) here) (cases_Bool (s u)) (cases_Bool (t u)) (no_more t s us stricter)
    (λ rest. one_fewer t s us v stricter was now rest)
  where
    by_position : ((v == u) ≡ true) ⊎ (has us v ≡ true) → (s u ≡ true) ⊎ (s u ≡ false) → (t u ≡ true) ⊎ (t u ≡ false)
        → length (filter s us) ≤ length (filter t us)
        → (has us v ≡ true → length (filter s us) + 1 ≤ length (filter t us))
        → length (filter s (u ∷ us)) + 1 ≤ length (filter t (u ∷ us))
    by_position (inl is) p q le onward =
        rw (ap s (sym (eqb-true v u is)) ∙ now, ap t (sym (eqb-true v u is)) ∙ was) (omega (arith, le))
    by_position (inr rest) (inl p) (inl q) le onward = let o = onward rest in rw (p, q) (omega (arith, o))
    by_position (inr rest) (inl p) (inr q) le onward = absurd (true≢false (sym (stricter u p) ∙ q))
    by_position (inr rest) (inr p) (inl q) le onward = let o = onward rest in rw (p, q) (omega (arith, o))
    by_position (inr rest) (inr p) (inr q) le onward = let o = onward rest in rw (p, q) o

pub no_more_than : (s : ℕ → Bool) (us : List ℕ) → length (filter s us) ≤ length us
no_more_than s [] = omega arith
no_more_than s (u ∷ us) =
    let rest = no_more_than s us in let chosen = length-chosen (s u) u (filter s us) in by_test (s u) rest chosen
  where
    by_test : {n : ℕ} (b : Bool) → length (filter s us) ≤ length us → n ≡ counts b + length (filter s us)
        → n ≤ length (u ∷ us)
    by_test true rest chosen = omega arith
    by_test false rest chosen = omega arith

-- a member of a filtered list is one of the list that passes
pub first_passes : (t : ℕ → Bool) (us vs : List ℕ) (v : ℕ) → filter t us ≡ v ∷ vs → (t v ≡ true) × (has us v ≡ true)
first_passes t [] vs v is = absurd (nothing is)
  where
    nothing : ◌≡◌ {A = List ℕ} [] (v ∷ vs) → ⊥
    nothing p = cc
first_passes t (u ∷ us) vs v is = by_test (t u) refl (first_passes t us vs v) is
  where
    by_test : (b : Bool) → t u ≡ b → (filter t us ≡ v ∷ vs → (t v ≡ true) × (has us v ≡ true))
        → cond b (u ∷ filter t us) (filter t us) ≡ v ∷ vs → (t v ≡ true) × (has (u ∷ us) v ≡ true)
    by_test true passes onward same =
        let at : u ≡ v = heads same in
        subst (λ (w : ℕ). (t w ≡ true) × (has (u ∷ us) w ≡ true)) at (passes, has-head u us)
    by_test false fails onward same = let rest = onward same in (rest.0, has-rest u us v rest.1)

-- above a given number none is that number
none_above : (t : ℕ → Bool) (us : List ℕ) (v : ℕ) → AllByRecursion (λ w. v < w) us → ((u : ℕ) → t u ≡ true → u ≡ v)
    → length (filter t us) ≡ 0
none_above t [] v above only = refl
none_above t (u ∷ us) v above only = by_test (t u) refl (none_above t us v above.1 only)
  where
    by_test : (b : Bool) → t u ≡ b → length (filter t us) ≡ 0 → length (cond b (u ∷ filter t us) (filter t us)) ≡ 0
    by_test true passes rest =
        let up : v < u = above.0 in let is : u ≡ v = only u passes in absurd (omega (arith, up, is))
    by_test false fails rest = rest

-- of an ascending list at most one is a given number
pub at_most_one : (t : ℕ → Bool) (us : List ℕ) (v : ℕ) → IsAscending us → ((u : ℕ) → t u ≡ true → u ≡ v)
    → length (filter t us) ≤ 1
at_most_one t [] v a only = omega arith
at_most_one t (u ∷ us) v a only = by_test (t u) refl (at_most_one t us v a.1 only)
  where
    by_test : (b : Bool) → t u ≡ b → length (filter t us) ≤ 1 → length (cond b (u ∷ filter t us) (filter t us)) ≤ 1
    by_test true passes rest =
        let none : length (filter t us)
        ≡ 0 = none_above t us v (subst (λ w. AllByRecursion (λ x. w < x) us) (only u passes) a.0) only in
        omega (arith, none)
    by_test false fails rest = rest

-- a device is in one half, or in neither and not in the range
one_half : (lo m hi u : ℕ) (f : Bool) → lo ≤ m → m < hi
    → counts (is_within lo hi u && f) ≡ counts (is_within lo m u && f) + counts (is_within (m + 1) hi u && f)
one_half lo m hi u f first last = by_position (cases_lt u lo) (cases_lt m u) (cases_lt hi u)
  where
    of_lower : (f : Bool) → counts f ≡ counts f + 0
    of_lower true = refl
    of_lower false = refl

    of_upper : (f : Bool) → counts f ≡ 0 + counts f
    of_upper true = refl
    of_upper false = refl

    by_position : (u < lo) ⊎ (lo ≤ u) → (m < u) ⊎ (u ≤ m) → (hi < u) ⊎ (u ≤ hi)
        → counts (is_within lo hi u && f) ≡ counts (is_within lo m u && f) + counts (is_within (m + 1) hi u && f)
    by_position (inl below) _ _ = rw (lt-leb lo u below, lt-leb (m + 1) u (omega arith)) refl
    by_position (inr above) (inr lower) _ =
        rw (le-leb lo u above, le-leb u hi (omega arith), le-leb u m lower, lt-leb (m + 1) u (omega arith)) (of_lower f)
    by_position (inr above) (inl upper) (inr inside) =
        rw (le-leb lo u above, lt-leb u m upper, le-leb (m + 1) u (omega arith), le-leb u hi inside) (of_upper f)
    by_position (inr above) (inl upper) (inl outside) =
        rw (le-leb lo u above, lt-leb u hi outside, lt-leb u m upper, le-leb (m + 1) u (omega arith)) refl

-- the devices of a range are those of its halves
pub left-halves : (present found : List ℕ) (lo m hi : ℕ) → lo ≤ m → m < hi
    → left_in present found (record { lo = lo; hi = hi }) ≡ left_in present found (record { lo = lo; hi = m }) + left_in
    present found (record { lo = m + 1; hi = hi })
left-halves [] found lo m hi first last = refl
left-halves (u ∷ us) found lo m hi first last =
    sums _ _ _ _ _ _ _ _ _
    (length-chosen (is_left found (record { lo = lo; hi = hi }) u) u (filter (is_left found (record {
      lo = lo;
      hi = hi;
    })) us))
    (length-chosen (is_left found (record { lo = lo; hi = m }) u) u (filter (is_left found (record {
      lo = lo;
      hi = m;
    })) us))
    (length-chosen (is_left found (record { lo = m + 1; hi = hi }) u) u (filter (is_left found (record {
      lo = m + 1;
      hi = hi;
    })) us))
    (one_half lo m hi u (not (has found u)) first last) (left-halves us found lo m hi first last)
  where
    sums : (x y z a b c p q r : ℕ) → x ≡ a + p → y ≡ b + q → z ≡ c + r → a ≡ b + c → p ≡ q + r → x ≡ y + z
    sums x y z a b c p q r e f g h i = omega arith
