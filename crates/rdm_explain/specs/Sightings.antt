-- The first of the exchanges of a kind, and how many others come after it.
use Rattle.std.specs.Prelude.{◌≡◌, ◌⊎◌, ℕ, zero, suc, ◌<◌, Option, Some, None}
use Rattle.rdm_explain.specs.declared.sighting.Sighting.{Sighting}

-- of the first k numbers, n have P
abbrev pub Have : (ℕ → Type 0) → ℕ → ℕ → Type 0
Have P zero n = n ≡ 0
Have P (suc k) n = (P k × (m : ℕ) × (n ≡ suc m) × Have P k m) ⊎ ((P k → ⊥) × Have P k n)

-- of the first k numbers, this is the first that has P, and so many others have it
pub record IsSighting (P : ℕ → Type 0) (k : ℕ) (s : Sighting) : Type 0 where
  pub here : P s.at
  pub before : (j : ℕ) → j < s.at → P j → ⊥
  pub many : Have P k (suc s.more)

-- no number has P, or these of the first k do
abbrev pub Sighted : (ℕ → Type 0) → ℕ → Option Sighting → Type 0
Sighted P k None = (at : ℕ) → P at → ⊥
Sighted P k (Some s) = IsSighting P k s
