-- The bytes of a file.
use Rattle.std.specs.Prelude.{◌≡◌, ℕ, ◌≤◌, List, length, Option, IfSome}

-- these are the bytes that a reader has, if these are known, and they aren't too many
pub record IsContent (known : Option (List ℕ)) (bytes : List ℕ) : Type 0 where
  pub all : IfSome known (λ xs. bytes ≡ xs)
  pub few : length bytes ≤ 1048576
