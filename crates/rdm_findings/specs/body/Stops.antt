-- Why nothing more of a log is explained.
use Rattle.std.specs.Prelude.{◌⊎◌, ℕ, Bool, List, [], Option}
use Rattle.std.specs.Io.KnownBytes.{Appends}
use Rattle.rdm_findings.specs.declared.log.LogFault.{LogFault}
use Rattle.rdm_findings.specs.Logs.{IsCutBy}

-- nothing was written; or a text, or its beginning, of which this holds, as it does of whether a rule was broken
abbrev pub StopsAfter : (List ℕ → Bool → Type 0) → Option (List ℕ) → Option (List ℕ) → LogFault → Type 0
StopsAfter Says old new fault =
    Appends old new []
    ⊎ ((text : List ℕ) × (broken : Bool) × Says text broken × (Appends old new text ⊎ IsCutBy fault old new text))
