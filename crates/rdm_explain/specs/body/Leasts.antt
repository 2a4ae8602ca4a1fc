-- The least number that passes a test.
use Rattle.std.specs.Prelude.{◌≡◌, ℕ, ◌<◌, Bool, true, false, Option, Some, None}

pub record IsLeast (f : ℕ → Bool) (u : ℕ) : Type 0 where
  pub here : f u ≡ true
  pub before : (v : ℕ) → v < u → f v ≡ false

-- no number passes, or this is the least that does
abbrev pub Least : (ℕ → Bool) → Option ℕ → Type 0
Least f None = (u : ℕ) → f u ≡ false
Least f (Some u) = IsLeast f u
