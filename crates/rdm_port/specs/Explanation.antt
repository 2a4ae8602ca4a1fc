-- What is printed for a log, and for which devices.
use Rattle.std.specs.Prelude.{◌≡◌, ◌⊎◌, ◌+◌, ◌<◌, ◌≤◌, ◌++◌, [], ℕ, Bool, false, not, List, Option, Some, None, ⊤}
use Rattle.std.specs.Prelude.{All, filter, length, IfSome, if◌then◌else◌}
use Rattle.std.specs.Borrow.{Bor}
use Rattle.clap.specs.Words.{Text}
use Rattle.rdm_wire.specs.Uid.{has, set_of}
use Rattle.rdm_arguments.specs.declared.job.ExplainJob.{ExplainJob}
use Rattle.rdm_files.specs.RigFiles.{IsRigFile}
use Rattle.rdm_files.specs.declared.scene.rig.RigFile.{RigFile}
use Rattle.rdm_findings.specs.Document.{document_start, document_end, document_stop}
use Rattle.rdm_findings.specs.SameLines.{FitsLine}
use Rattle.rdm_findings.specs.Lines.{lines_text}
use Rattle.rdm_findings.specs.Logs.{AreExplained, IsLogText}
use Rattle.rdm_findings.specs.Runs.{read_all, runs_of}
use Rattle.rdm_findings.specs.declared.form.Form.{Form}
use Rattle.rdm_findings.specs.declared.form.Form.TheVariants.{Lines, Json}
use Rattle.rdm_findings.specs.declared.line.LogLine.{LogLine}
use Rattle.rdm_findings.specs.declared.log.LogFault.{LogFault}
use Rattle.rdm_findings.specs.declared.log.LogFault.TheVariants.{Line}
use Rattle.rdm_port.specs.Fault.{Format, IsFileFault, ReadsFile}
use Rattle.rdm_port.specs.LineOutcome.{SpellDevices}
use Rattle.rdm_port.specs.declared.fault.Fault.{Fault}
use Rattle.rdm_port.specs.declared.fault.Fault.TheVariants.{Uid, Scene, Memory}

-- the UIDs that the arguments give; at most 1,024
pub record SaysPresent (job : ExplainJob) (given : List ℕ) : Type 0 where
  pub few : length job.present.items ≤ 1024
  pub listed : List ℕ
  pub spelled : SpellDevices job.present.items listed
  pub set : given ≡ set_of listed

-- scene files, which are read for their devices
abbrev pub rigs : Format RigFile
rigs = record { forbids = λ value. false; means = IsRigFile }

-- the devices of the scene file, if the arguments name one
abbrev pub HasRig : Option (Bor Text) → Option (List ℕ) → RigFile → Type 0
HasRig None known rig = (rig.staying.items ≡ []) × (rig.passing.items ≡ [])
HasRig (Some path) known rig = ReadsFile rigs known rig

-- those that aren't among the given ones
abbrev pub without : List ℕ → List ℕ → List ℕ
without given us = filter (λ u. not (has given u)) us

-- the devices that were present: those that the arguments give, and those of the scene file that stay. The others of
-- the file come or leave. The file has these bytes, if they are known
pub record HasDevices (job : ExplainJob) (known : Option (List ℕ)) (present passing : List ℕ) : Type 0 where
  pub given : List ℕ
  pub says : SaysPresent job given
  pub rig : RigFile
  pub has_rig : HasRig job.rig known rig
  pub present_are : present ≡ given ++ without given rig.staying.items
  pub passing_are : passing ≡ without given rig.passing.items

-- more than 1,024 devices were present
pub record HasTooMany (job : ExplainJob) (known : Option (List ℕ)) : Type 0 where
  pub present : List ℕ
  pub passing : List ℕ
  pub devices : HasDevices job known present passing
  pub many : 1024 < length present

-- the program's status: whether a rule was broken
abbrev pub explain_status : Bool → ℕ
explain_status broken = if broken then 3 else 0

-- how findings are printed: as JSON, if the arguments say so
abbrev pub form_of : Bool → Form
form_of json = if json then Json else Lines

-- the text has the findings about exactly the lines of a log with these bytes, if they are known
pub record IsExplanation (form : Form) (present passing : List ℕ) (known : Option (List ℕ)) (text : List ℕ)
    (status : ℕ) : Type 0 where
  pub lines : List LogLine
  pub fits : All FitsLine lines
  pub all : IfSome known (λ bytes. bytes ≡ lines_text lines)
  pub findings : List ℕ
  pub broken : Bool
  pub explained : IsLogText form present passing (runs_of lines) findings broken
  pub prints : text ≡ document_start form passing ++ findings ++ document_end form broken
  pub ends : status ≡ explain_status broken

-- The text has the findings about the runs that ended in the first lines of a log, or about all runs of these lines,
-- and then a fault: the file or memory, or the line after these, counted from 1, which isn't a log's; that is tested
-- and not proved. The log has these lines and then other bytes, if its bytes are known
pub record IsPartExplanation (form : Form) (present passing : List ℕ) (known : Option (List ℕ)) (text : List ℕ)
    (status : ℕ) : Type 0 where
  pub lines : List LogLine
  pub fits : All FitsLine lines
  pub others : List ℕ
  pub read : IfSome known (λ bytes. bytes ≡ lines_text lines ++ others)
  pub findings : List ℕ
  pub broken : Bool
  pub explained : AreExplained form false present passing (read_all lines).0 findings broken
      ⊎ IsLogText form present passing (runs_of lines) findings broken
  pub fault : LogFault
  pub number : (n : ℕ) → fault ≡ Line n → length lines + 1 ≡ n
  pub prints : text ≡ document_start form passing ++ findings ++ document_stop form fault
  pub ends : status ≡ 1

-- the text and the status explain a log about these devices; its bytes and those of the scene file may be known
pub record Explains (job : ExplainJob) (log rig : Option (List ℕ)) (text : List ℕ) (status : ℕ) : Type 0 where
  pub present : List ℕ
  pub passing : List ℕ
  pub devices : HasDevices job rig present passing
  pub few : length present ≤ 1024
  pub answers : IsExplanation (form_of job.json) present passing log text status
      ⊎ IsPartExplanation (form_of job.json) present passing log text status

-- the faults of a scene file with these bytes, if the arguments name one
abbrev pub IsRigFault : Option (Bor Text) → Option (List ℕ) → Fault → Type 0
IsRigFault None known fault = ⊥
IsRigFault (Some path) known fault = IsFileFault rigs known fault

-- the faults before a log is read: a text that spells no device's UID, or else those of the scene file
abbrev pub IsExplainFault : ExplainJob → Option (List ℕ) → Fault → Type 0
IsExplainFault job known Uid = (given : List ℕ) → SaysPresent job given → ⊥
IsExplainFault job known Memory = ⊤
IsExplainFault job known Scene = IsRigFault job.rig known Scene ⊎ HasTooMany job known
IsExplainFault job known fault = IsRigFault job.rig known fault
