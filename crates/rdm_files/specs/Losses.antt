-- Losses of five exchanges in a row.
use Rattle.std.specs.Prelude.{◌≡◌, ℕ, ◌+◌, ◌<◌, ◌≤◌, true, List}
use Rattle.rdm_wire.specs.Uid.{has}

-- the five consecutive numbers from this one on are all in the list
abbrev pub HasFive : List ℕ → ℕ → Type 0
HasFive losses first = (j : ℕ) → j < 5 → has losses (first + j) ≡ true

-- this is the least number from which on five consecutive ones are all in the list
pub record IsFirstOfFive (losses : List ℕ) (first : ℕ) : Type 0 where
  pub all : HasFive losses first
  pub least : (other : ℕ) → HasFive losses other → first ≤ other
