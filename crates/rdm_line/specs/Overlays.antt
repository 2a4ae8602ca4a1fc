-- Replies that are sent at the same time.
use Rattle.std.specs.Prelude.{ℕ, List, [], ◌∷◌, fold, bit_or}

-- the OR of two replies, byte by byte; the shorter one is filled up with zeros
abbrev pub laid_over : List ℕ → List ℕ → List ℕ
laid_over [] ys = ys
laid_over (x ∷ xs) [] = x ∷ xs
laid_over (x ∷ xs) (y ∷ ys) = bit_or x y ∷ laid_over xs ys

-- the OR of all these replies
abbrev pub all_laid_over : List (List ℕ) → List ℕ
all_laid_over replies = fold laid_over [] replies
