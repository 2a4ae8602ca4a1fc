-- What is written to a log.
use Rattle.std.specs.Prelude.{◌≡◌, ◌≢◌, ◌++◌, [], ℕ, Bool, true, false, List, Option}
use Rattle.std.specs.Io.KnownBytes.{Appends, Keeps}

-- a writer that had old now has new, which is old and a prefix of the text, but not all of it
abbrev pub IsCutShort : Option (List ℕ) → Option (List ℕ) → List ℕ → Type 0
IsCutShort old new text = (front rest : List ℕ) × (text ≡ front ++ rest) × (rest ≢ []) × Appends old new front

-- a writer has received the whole text, or it has failed and has received a prefix of it, but not all
abbrev pub IsWritten : Bool → Option (List ℕ) → Option (List ℕ) → List ℕ → Type 0
IsWritten false old new text = Appends old new text
IsWritten true old new text = IsCutShort old new text

-- a log: what its writer holds, if that is known, whether it is open, and whether its writer has failed
pub record LogState : Type 0 where
  pub contents : Option (List ℕ)
  pub is_open : Bool
  pub is_failed : Bool

-- the text is written to a log that was open and hadn't failed. Nothing is written to any other log
abbrev pub LogsFrom : (was_open was_failed is_failed : Bool) → Option (List ℕ) → Option (List ℕ) → List ℕ → Type 0
LogsFrom false was_failed is_failed old new text = (is_failed ≡ was_failed) × Keeps old new
LogsFrom true true is_failed old new text = (is_failed ≡ true) × Keeps old new
LogsFrom true false is_failed old new text = IsWritten is_failed old new text

-- the text is written to the log, and the log stays open or closed
abbrev pub Logs : LogState → LogState → List ℕ → Type 0
Logs old new text =
    (new.is_open ≡ old.is_open)
    × LogsFrom old.is_open old.is_failed new.is_failed old.contents new.contents text
