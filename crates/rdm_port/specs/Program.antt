-- What is printed for the program's arguments, and the status.
use Rattle.std.specs.Prelude.{◌≡◌, ◌⊎◌, [], ℕ, Bool, false, List, Option, Result, Ok, Err, is_some}
use Rattle.clap.specs.Words.{Text}
use Rattle.rdm_wire.specs.declared.device.Device.{Device}
use Rattle.rdm_agent.specs.declared.fault.AgentFault.{AgentFault}
use Rattle.rdm_agent.specs.declared.kind.Kind.{Kind}
use Rattle.rdm_agent.specs.declared.search.Search.{Search}
use Rattle.rdm_line.specs.Events.{Exchange}
use Rattle.rdm_arguments.specs.Arguments.{log_of}
use Rattle.rdm_arguments.specs.declared.job.DiscoverJob.{DiscoverJob}
use Rattle.rdm_arguments.specs.declared.job.DiscoveryLine.{DiscoveryLine}
use Rattle.rdm_arguments.specs.declared.job.DiscoveryLine.TheVariants as line
use Rattle.rdm_arguments.specs.declared.job.Job.{Job}
use Rattle.rdm_arguments.specs.declared.job.Job.TheVariants.{Decode, Encode, Discover, Run, Explain}
use Rattle.rdm_arguments.specs.declared.job.WordsFault.{WordsFault}
use Rattle.rdm_port.specs.Explanation.{Explains, IsExplainFault}
use Rattle.rdm_port.specs.Fault.{IsDecodeFault, IsEncodeFault, IsFileFault, IsSessionFault, fault_line, fault_of_words}
use Rattle.rdm_port.specs.Fault.{fault_status, scenes}
use Rattle.rdm_port.specs.LineOutcome.{IsLineFault, IsLineRun}
use Rattle.rdm_port.specs.Outcome.{Decodes, Encodes, IsLogUnreported, IsSceneRun, Runs, kind_of, search_of}
use Rattle.rdm_port.specs.declared.fault.Fault.{Fault}
use Rattle.rdm_reports.specs.Report.{line_of, report_text, report_status}

-- a run on a discovery's line reports this; a line of the caller's own has these steps, and was opened by its streams
abbrev pub IsRun : (L : Type 0) → (L → Exchange → L → Type 0) → (Text → Text → L → Type 0) → DiscoveryLine → Search
    → Kind → Option (List ℕ) → Result (List Device) (AgentFault × List Device) → ℕ → List ℕ → Type 0
IsRun L step opens (line.Scene file) search kind known = IsSceneRun search kind known
IsRun L step opens (line.Streams own) search kind known = IsLineRun L step opens own search kind

-- the texts report a discovery on its line, and its exchanges
pub record Discovers (L : Type 0) (step : L → Exchange → L → Type 0) (opens : Text → Text → L → Type 0)
    (job : DiscoverJob) (known : Option (List ℕ)) (text logged : List ℕ) (status : ℕ) : Type 0 where
  pub found : Result (List Device) (AgentFault × List Device)
  pub frames : ℕ
  pub run : IsRun L step opens job.line (search_of job.quick) (kind_of job.incremental) known found frames logged
  pub prints : text ≡ report_text found frames
  pub ends : status ≡ report_status found

-- The texts and the status answer the job, whose file has these bytes, if they are known, and the scene file beside a
-- log these. The second text is for the log, if the job keeps one.
abbrev pub Answers : (L : Type 0) → (L → Exchange → L → Type 0) → (Text → Text → L → Type 0) → Job → Option (List ℕ)
    → Option (List ℕ) → List ℕ → List ℕ → ℕ → Type 0
Answers L step opens (Decode digits) known rig text logged status = Decodes digits.now text × (status ≡ 0)
Answers L step opens (Encode uid) known rig text logged status = Encodes uid.now text × (status ≡ 0)
Answers L step opens (Discover job) known rig text logged status = Discovers L step opens job known text logged status
Answers L step opens (Run job) known rig text logged status = Runs L opens job.streams known text logged status
Answers L step opens (Explain job) known rig text logged status = Explains job known rig text status

-- the faults of a discovery on its line
abbrev pub IsDiscoveryFault : DiscoveryLine → Option (List ℕ) → Fault → Type 0
IsDiscoveryFault (line.Scene file) known fault = IsFileFault scenes known fault
IsDiscoveryFault (line.Streams own) known fault = IsLineFault own fault

-- the faults of a job whose file has these bytes, if they are known, and the scene file beside a log these
abbrev pub HasFault : Job → Option (List ℕ) → Option (List ℕ) → Fault → Type 0
HasFault (Decode digits) known rig fault = IsDecodeFault digits.now fault
HasFault (Encode uid) known rig fault = IsEncodeFault uid.now fault
HasFault (Discover job) known rig fault = IsDiscoveryFault job.line known fault
HasFault (Run job) known rig fault = IsSessionFault (is_some job.streams) known fault
HasFault (Explain job) known rig fault = IsExplainFault job rig fault

-- the faults of a command
abbrev pub IsFaultOf : Result Job WordsFault → Option (List ℕ) → Option (List ℕ) → Fault → Type 0
IsFaultOf (Ok job) known rig fault = HasFault job known rig fault
IsFaultOf (Err refusal) known rig fault = fault ≡ fault_of_words refusal

-- what a command logs with a fault: nothing, except for a discovery whose report finds no memory
abbrev pub IsLoggedWith : (L : Type 0) → (L → Exchange → L → Type 0) → (Text → Text → L → Type 0)
    → Result Job WordsFault → Option (List ℕ) → Fault → List ℕ → Type 0
IsLoggedWith L step opens (Ok (Discover job)) known fault logged =
    IsLogUnreported (Discovers L step opens job known) fault logged
IsLoggedWith L step opens _ known fault logged = logged ≡ []

-- the texts and the status that answer a command
abbrev pub IsOutcome : (L : Type 0) → (L → Exchange → L → Type 0) → (Text → Text → L → Type 0) → Result Job WordsFault
    → Option (List ℕ) → Option (List ℕ) → List ℕ → List ℕ → ℕ → Type 0
IsOutcome L step opens command known rig text logged status =
    ((job : Job) × (command ≡ Ok job) × Answers L step opens job known rig text logged status)
    ⊎ ((fault : Fault) × IsFaultOf command known rig fault × (text ≡ line_of (fault_line fault))
    × IsLoggedWith L step opens command known fault logged × (status ≡ fault_status fault))

-- whether a job has a log
abbrev pub has_log : Result Job WordsFault → Bool
has_log (Ok job) = is_some (log_of job)
has_log (Err refusal) = false
