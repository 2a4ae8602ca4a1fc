-- Five losses in a row, as a test.
use Rattle.std.specs.Prelude.{ℕ, ◌+◌, Bool, ◌&&◌, List}
use Rattle.rdm_wire.specs.Uid.{has}

-- whether the five consecutive numbers from this one on are all in the list
abbrev pub has_five : List ℕ → ℕ → Bool
has_five losses first =
    has losses first && has losses (first + 1) && has losses (first + 2) && has losses (first + 3)
    && has losses (first + 4)
