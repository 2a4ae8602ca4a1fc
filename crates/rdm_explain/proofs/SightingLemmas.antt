-- The first of the exchanges of a kind, and how many came after it so far.
use Rattle.std.proofs.Common.{◌≡◌, ℕ, zero, suc, ◌+◌, ◌<◌, ◌≤◌, Bool, true, false, Option, Some, None, refl, sym}
use Rattle.std.proofs.Common.{subst, inl, inr, true≢false, arith}
use Rattle.std.specs.Prelude.{◌⊎◌}
use Rattle.std.proofs.lemmas.Bool.{cases_lt}
use Rattle.rdm_explain.specs.declared.sighting.Sighting.{Sighting}
use Rattle.rdm_explain.specs.Sightings.{Have, Sighted}
use Rattle.rdm_explain.specs.body.Noting.{with_one, noted, AreFew, SightedTo}

at_most : (P : ℕ → Type 0) (k n : ℕ) → Have P k n → n ≤ k
at_most P zero n h = omega (arith, h)
at_most P (suc k) n (inl h) = let few = at_most P k h.1 h.3 in let is = h.2 in omega (arith, few, is)
at_most P (suc k) n (inr h) = let few = at_most P k n h.1 in omega (arith, few)

none_of : (P : ℕ → Type 0) (k j : ℕ) → Have P k 0 → j < k → P j → ⊥
none_of P zero j h less p = omega (arith, less)
none_of P (suc k) j (inl h) less p = let is = h.2 in omega (arith, is)
none_of P (suc k) j (inr h) less p = by_order (cases_lt j k) (λ earlier. none_of P k j h.1 earlier p)
  where
    by_order : (j < k) ⊎ (k ≤ j) → (j < k → ⊥) → ⊥
    by_order (inl earlier) never = never earlier
    by_order (inr later) never = let same : j ≡ k = omega (arith, less, later) in h.0 (subst P same p)

-- none of those from k on has P
none_later : (P : ℕ → Type 0) (k l n : ℕ) → k ≤ l → ((j : ℕ) → k ≤ j → P j → ⊥) → Have P k n → Have P l n
none_later P k zero n within never h =
    let none : k ≡ 0 = omega (arith, within) in subst (λ i. Have P i n) none h
none_later P k (suc l) n within never h = by_order (cases_lt l k) (λ more. none_later P k l n more never h)
  where
    by_order : (l < k) ⊎ (k ≤ l) → (k ≤ l → Have P l n) → Have P (suc l) n
    by_order (inl less) rest = let same : k ≡ suc l = omega (arith, less, within) in subst (λ i. Have P i n) same h
    by_order (inr more) rest = inr (never l more, rest more)

pub sighted : (P : ℕ → Type 0) (k l : ℕ) (found : Option Sighting) → k ≤ l → ((j : ℕ) → k ≤ j → P j → ⊥)
    → SightedTo P k found → Sighted P l found
sighted P k l None within never h = λ j p. by_order j p (cases_lt j k)
  where
    by_order : (j : ℕ) → P j → (j < k) ⊎ (k ≤ j) → ⊥
    by_order j p (inl less) = none_of P k j h less p
    by_order j p (inr more) = never j more p
sighted P k l (Some s) within never h =
    record { here = h.here; before = h.before; many = none_later P k l (suc s.more) within never h.many }

pub are_few : (P : ℕ → Type 0) (k : ℕ) (found : Option Sighting) → SightedTo P k found → AreFew k found
are_few P k None h = tt
are_few P k (Some s) h = let few = at_most P k (suc s.more) h.many in omega (arith, few)

-- with one more number
next : (P : ℕ → Type 0) (k n : ℕ) → Have P (suc k) n → Have P (k + 1) n
next P k n h = let is : suc k ≡ k + 1 = omega arith in subst (λ i. Have P i n) is h

seen_more : (P : ℕ → Type 0) (k : ℕ) (found : Option Sighting) → P k → SightedTo P k found
    → SightedTo P (k + 1) (with_one k found)
seen_more P k None p h = record {
  here = p;
  before = λ j less q. none_of P k j h less q;
  many = next P k 1 (inl (p, 0, refl, h));
}
seen_more P k (Some s) p h = record {
  here = h.here;
  before = h.before;
  many = next P k (suc (s.more + 1)) (inl (p, suc s.more, more, h.many));
}
  where
    more : suc (s.more + 1) ≡ suc (suc s.more)
    more = omega arith

unseen_more : (P : ℕ → Type 0) (k : ℕ) (found : Option Sighting) → (P k → ⊥) → SightedTo P k found
    → SightedTo P (k + 1) found
unseen_more P k None never h = next P k 0 (inr (never, h))
unseen_more P k (Some s) never h =
    record { here = h.here; before = h.before; many = next P k (suc s.more) (inr (never, h.many)) }

pub noted_more : (P : ℕ → Type 0) (k : ℕ) (is : Bool) (old new : Option Sighting) → (is ≡ true → P k)
    → (P k → is ≡ true) → new ≡ noted k is old → SightedTo P k old → SightedTo P (k + 1) new
noted_more P k true old new sound complete same h =
    subst (SightedTo P (k + 1)) (sym same) (seen_more P k old (sound refl) h)
noted_more P k false old new sound complete same h =
    subst (SightedTo P (k + 1)) (sym same) (unseen_more P k old (λ p. true≢false (sym (complete p))) h)
