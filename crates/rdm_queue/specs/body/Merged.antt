-- Lists of numbered elements, merged into one.
use Rattle.std.specs.Prelude.{◌≡◌, ℕ, List, [], ◌∷◌, filter, get_or, ◌==◌, if◌then◌else◌, nat_lt}

-- x among these, before the first with a higher number
unfoldable pub put_in : {X : Type 0} → (X → ℕ) → X → List X → List X
put_in number x [] = x ∷ []
put_in number x (y ∷ ys) = if nat_lt (number x) (number y) then x ∷ y ∷ ys else y ∷ put_in number x ys

unfoldable pub put_all : {X : Type 0} → (X → ℕ) → List X → List X → List X
put_all number [] ys = ys
put_all number (x ∷ xs) ys = put_in number x (put_all number xs ys)

-- the elements of all these lists, lowest number first
unfoldable pub merged : {X : Type 0} → (X → ℕ) → List (List X) → List X
merged number [] = []
merged number (xs ∷ lists) = put_all number xs (merged number lists)

-- the c-th of these lists has client c's elements of the whole list, in the same order
abbrev pub AreShares : {X : Type 0} → (X → ℕ) → List (List X) → List X → Type 0
AreShares client lists all = (c : ℕ) → get_or lists c [] ≡ filter (λ x. c == client x) all
