-- What a line over streams reads, and the text of what it has read.
use Rattle.std.specs.Prelude.{◌≡◌, ◌≢◌, ◌⊎◌, ℕ, List, [], ◌∷◌, ◌++◌, All, Option}
use Rattle.std.specs.Io.KnownBytes.{Consumes}

-- a part of a line was read, or one line with its newline
abbrev pub ReadsWithin : Option (List ℕ) → Option (List ℕ) → Type 0
ReadsWithin left after =
    (line : List ℕ) × All (λ b. b ≢ 10) line × (Consumes left after line ⊎ Consumes left after (line ++ 10 ∷ []))

-- a line's text: the line without the carriage return at its end, if it has one
abbrev pub IsTextOf : List ℕ → List ℕ → Type 0
IsTextOf line text = (line ≡ text ++ 13 ∷ []) ⊎ ((line ≡ text) × ((front : List ℕ) → line ≢ front ++ 13 ∷ []))
