-- What is printed for an explanation, which has no log.
use Rattle.std.specs.Prelude.{◌≡◌, ◌⊎◌, ℕ, List, Option, Result, Ok, ⊤}
use Rattle.rdm_arguments.specs.declared.job.ExplainJob.{ExplainJob}
use Rattle.rdm_arguments.specs.declared.job.Job.{Job}
use Rattle.rdm_arguments.specs.declared.job.Job.TheVariants.{Explain}
use Rattle.rdm_arguments.specs.declared.job.WordsFault.{WordsFault}
use Rattle.rdm_port.specs.Explanation.{Explains, IsExplainFault}
use Rattle.rdm_port.specs.Fault.{fault_line, fault_status}
use Rattle.rdm_port.specs.declared.fault.Fault.{Fault}
use Rattle.rdm_reports.specs.Report.{line_of}

-- the command is another one
abbrev pub IsNoExplanation : Result Job WordsFault → Type 0
IsNoExplanation (Ok (Explain job)) = ⊥
IsNoExplanation _ = ⊤

-- the text and the status explain a log, or report a fault before it is read
abbrev pub IsExplainOutcome : ExplainJob → Option (List ℕ) → Option (List ℕ) → List ℕ → ℕ → Type 0
IsExplainOutcome job known rig text status =
    Explains job known rig text status
    ⊎ ((fault : Fault) × IsExplainFault job rig fault × (text ≡ line_of (fault_line fault))
    × (status ≡ fault_status fault))
