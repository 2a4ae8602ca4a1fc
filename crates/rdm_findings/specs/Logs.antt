-- What is printed for a log.
use Rattle.std.specs.Prelude.{◌≡◌, ◌⊎◌, ℕ, ◌+◌, Bool, true, false, ◌||◌, List, [], ◌∷◌, ◌++◌, Option, flat_map, length}
use Rattle.std.specs.Prelude.{All, codes}
use Rattle.std.specs.Io.KnownBytes.{Appends, Consumes}
use Rattle.rdm_reports.specs.Writing.{IsCutShort}
use Rattle.rdm_explain.specs.declared.exchange.Exchange.{Exchange}
use Rattle.rdm_explain.specs.Exchanges.{seen_all}
use Rattle.rdm_findings.specs.declared.form.Form.{Form}
use Rattle.rdm_findings.specs.declared.form.Form.TheVariants.{Lines, Json}
use Rattle.rdm_findings.specs.declared.form.Judgement.TheVariants as judged
use Rattle.rdm_findings.specs.declared.line.LogLine.{LogLine}
use Rattle.rdm_findings.specs.declared.log.LogFault.{LogFault}
use Rattle.rdm_findings.specs.declared.log.LogFault.TheVariants.{Line, Unwritten}
use Rattle.rdm_findings.specs.Explained.{IsExplained}
use Rattle.rdm_findings.specs.FindingText.{uid_finding}
use Rattle.rdm_findings.specs.Forms.{after_sentence, object_start, of_run}
use Rattle.rdm_findings.specs.SameLines.{FitsLine}
use Rattle.rdm_findings.specs.Lines.{lines_text}
use Rattle.rdm_findings.specs.RunJson.{run_end}
use Rattle.rdm_findings.specs.Runs.{RunRead, read_all, runs_of}

-- The text has the findings about exactly the exchanges of this run. `any` says whether others were printed before
pub record IsRunText (form : Form) (any : Bool) (present passing : List ℕ) (run : RunRead) (text : List ℕ)
    (broken : Bool) : Type 0 where
  pub exchanges : List Exchange
  pub same : seen_all exchanges ≡ run.exchanges
  pub explained : IsExplained form any run.head run.known present passing exchanges text broken

-- the text has those about each of these runs, in order, and says whether a rule was broken in any
abbrev pub AreExplained : Form → Bool → List ℕ → List ℕ → List RunRead → List ℕ → Bool → Type 0
AreExplained form any present passing [] text broken = (text ≡ []) × (broken ≡ false)
AreExplained form any present passing (run ∷ runs) text broken =
    (first later : List ℕ) × (here there : Bool) × IsRunText form any present passing run first here
    × AreExplained form true present passing runs later there × (text ≡ first ++ later) × (broken ≡ here || there)

-- the finding about a listed device, if a log has no run
abbrev pub unjudged_finding : Form → ℕ → List ℕ
unjudged_finding form u =
    uid_finding form judged.Unjudged u (codes " can't be judged: the log has no exchange of a discovery")

-- what precedes the first sentence about a log without a run: in JSON it has the form of a run
abbrev pub no_run_start : Form → List ℕ
no_run_start Lines = []
no_run_start Json =
    codes "{\"exchanges\":0,\"devices\":0,\"heard\":\"\",\"findings\":[" ++ object_start (of_run judged.NoRun)

-- the first finding about a log without a run
abbrev pub no_run_finding : Form → List ℕ
no_run_finding form = no_run_start form ++ (codes "the log has no exchange of a discovery" ++ after_sentence form)

-- what is printed for a log without a run
abbrev pub no_run_text : Form → List ℕ → List ℕ
no_run_text form present = no_run_finding form ++ flat_map (unjudged_finding form) present ++ run_end form

-- the text is printed for a log with these runs, and says whether a rule was broken in any. The devices of `present`
-- were on the line during all of them, those of `passing` came or left
abbrev pub IsLogText : Form → List ℕ → List ℕ → List RunRead → List ℕ → Bool → Type 0
IsLogText form present passing [] text broken = (text ≡ no_run_text form present) × (broken ≡ false)
IsLogText form present passing (run ∷ runs) text broken =
    AreExplained form false present passing (run ∷ runs) text broken

-- what is printed at a log's end, about these last runs. `any` says whether there were others before
abbrev pub EndsLog : Form → List ℕ → List ℕ → Bool → List RunRead → List ℕ → Bool → Type 0
EndsLog form present passing true last text broken = AreExplained form true present passing last text broken
EndsLog form present passing false last text broken = IsLogText form present passing last text broken

-- the writer failed before the text's end
abbrev pub IsCutBy : LogFault → Option (List ℕ) → Option (List ℕ) → List ℕ → Type 0
IsCutBy (Unwritten kind) old new text = IsCutShort old new text
IsCutBy _ old new text = ⊥

-- A log wasn't explained to its end, with this fault. What was read begins with the text of these lines. The runs that
-- ended in them, or all of them, were printed before; not to their end, if the writer failed. That the line after them,
-- counted from 1, isn't a log's if the fault says so, is tested and not proved
pub record IsStopped (form : Form) (present passing : List ℕ) (left now old new : Option (List ℕ)) (fault : LogFault)
    : Type 0 where
  pub lines : List LogLine
  pub fits : All FitsLine lines
  pub rest : Option (List ℕ)
  pub read : Consumes left rest (lines_text lines)
  pub text : List ℕ
  pub broken : Bool
  pub explained : AreExplained form false present passing (read_all lines).0 text broken
      ⊎ IsLogText form present passing (runs_of lines) text broken
  pub wrote : Appends old new text ⊎ IsCutBy fault old new text
  pub refused : (n : ℕ) → fault ≡ Line n
      → (other : List ℕ) × Consumes rest now other × (length lines + 1 ≡ n)
