-- What is printed of a log that isn't explained to its end.
use Rattle.std.specs.Prelude.{◌≡◌, ◌⊎◌, ◌+◌, ◌++◌, ℕ, All, Bool, false, List, Option, IfSome, ⊤, length}
use Rattle.std.specs.Io.KnownBytes.{Appends}
use Rattle.rdm_findings.specs.SameLines.{FitsLine}
use Rattle.rdm_findings.specs.Lines.{lines_text}
use Rattle.rdm_findings.specs.Logs.{AreExplained, IsCutBy, IsLogText}
use Rattle.rdm_findings.specs.Runs.{read_all, runs_of}
use Rattle.rdm_findings.specs.declared.form.Form.{Form}
use Rattle.rdm_findings.specs.declared.line.LogLine.{LogLine}
use Rattle.rdm_findings.specs.declared.log.LogFault.{LogFault}
use Rattle.rdm_findings.specs.declared.log.LogFault.TheVariants.{Line, Unwritten}

-- The findings about the runs that ended in the first lines of a log with these bytes, or about all runs of these
-- lines, were written; not to their end, if the writer failed
pub record WritesPart (form : Form) (present passing : List ℕ) (known old new : Option (List ℕ)) (fault : LogFault)
    : Type 0 where
  pub lines : List LogLine
  pub fits : All FitsLine lines
  pub others : List ℕ
  pub read : IfSome known (λ bytes. bytes ≡ lines_text lines ++ others)
  pub findings : List ℕ
  pub broken : Bool
  pub explained : AreExplained form false present passing (read_all lines).0 findings broken
      ⊎ IsLogText form present passing (runs_of lines) findings broken
  pub wrote : Appends old new findings ⊎ IsCutBy fault old new findings
  pub number : (n : ℕ) → fault ≡ Line n → length lines + 1 ≡ n

-- the writer didn't fail
abbrev pub IsNoWriterFault : LogFault → Type 0
IsNoWriterFault (Unwritten kind) = ⊥
IsNoWriterFault _ = ⊤
