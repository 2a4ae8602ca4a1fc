-- A command that explains a log, and one that doesn't, for which the scene file beside a log means nothing.
use Rattle.std.proofs.Common.{◌≡◌, ◌⊎◌, inl, inr, ℕ, List, [], Option, None, Result, Ok, Err, refl, sym, subst}
use Rattle.std.specs.Prelude.{IfOk, IfErr}
use Rattle.std.specs.Io.KnownBytes.{Keeps}
use Rattle.std.proofs.KnownBytes.{Keeps-refl}
use Rattle.clap.specs.Words.{Text}
use Rattle.rdm_line.specs.Events.{Exchange}
use Rattle.rdm_arguments.specs.declared.job.ExplainJob.{ExplainJob}
use Rattle.rdm_arguments.specs.declared.job.Job.{Job}
use Rattle.rdm_arguments.specs.declared.job.Job.TheVariants.{Decode, Encode, Discover, Run, Explain}
use Rattle.rdm_arguments.specs.declared.job.WordsFault.{WordsFault}
use Rattle.rdm_port.specs.Fault.{fault_line, fault_status}
use Rattle.rdm_port.specs.Outcome.{IsLogged, IsPrinted}
use Rattle.rdm_port.specs.Program.{Answers, IsFaultOf, IsOutcome, has_log}
use Rattle.rdm_port.specs.body.Explained.{IsExplainOutcome, IsNoExplanation}
use Rattle.rdm_port.specs.body.Logged.{HasLogged, HasTextAndStatus}
use Rattle.rdm_port.specs.body.Texts.{answer_bytes}
use Rattle.rdm_port.specs.declared.answer.Answered.{Answered}
use Rattle.rdm_port.specs.declared.fault.Fault.{Fault}
use Rattle.rdm_reports.specs.Report.{line_of}

-- an explanation, or its fault, is printed, and nothing is logged
pub explanation_printed : (L : Type 0) (step : L → Exchange → L → Type 0) (opens : Text → Text → L → Type 0)
    (command : Result Job WordsFault) (job : ExplainJob) (known rig held old new : Option (List ℕ)) (result : ℕ)
    → command ≡ Ok (Explain job)
    → (text : List ℕ) × (status : ℕ) × IsExplainOutcome job known rig text status × IsPrinted old new text status result
    → (text logged : List ℕ) × (status status_printed : ℕ)
    × IsOutcome L step opens command known rig text logged status
    × IsLogged (has_log command) held held logged status status_printed
    × IsPrinted old new text status_printed result
explanation_printed L step opens command job known rig held old new result is (text, status, outcome, printed) =
    subst (λ c. (t logged : List ℕ) × (s s_printed : ℕ) × IsOutcome L step opens c known rig t logged s
    × IsLogged (has_log c) held held logged s s_printed × IsPrinted old new t s_printed result) (sym is)
    (text, [], status, status, by_outcome outcome, (refl, Keeps-refl held), printed)
  where
    by_outcome : IsExplainOutcome job known rig text status
        → IsOutcome L step opens (Ok (Explain job)) known rig text [] status
    by_outcome (inl explains) = inl (Explain job, refl, explains)
    by_outcome (inr (fault, failed, line, ends)) = inr (fault, failed, line, refl, ends)

-- an answer to another command, whatever the scene file beside a log has
answers_by : (L : Type 0) (step : L → Exchange → L → Type 0) (opens : Text → Text → L → Type 0) (job : Job)
    (known rig : Option (List ℕ)) (text logged : List ℕ) (status : ℕ) → IsNoExplanation (Ok job)
    → Answers L step opens job known None text logged status → Answers L step opens job known rig text logged status
answers_by L step opens (Decode digits) known rig text logged status other answers = answers
answers_by L step opens (Encode uid) known rig text logged status other answers = answers
answers_by L step opens (Discover job) known rig text logged status other answers = answers
answers_by L step opens (Run job) known rig text logged status other answers = answers
answers_by L step opens (Explain job) known rig text logged status other answers = absurd other

pub answers_any_rig : {E : Type 0} (r : Result Answered (Fault × E)) (L : Type 0) (step : L → Exchange → L → Type 0)
    (opens : Text → Text → L → Type 0) (command : Result Job WordsFault) (known rig : Option (List ℕ))
    (Has : List ℕ → Type 0) → IsNoExplanation command
    → IfOk r (λ a. (logged : List ℕ) × ((j : Job) × (command ≡ Ok j)
    × Answers L step opens j known None (answer_bytes a.text) logged a.status) × Has logged)
    → IfOk r (λ a. (logged : List ℕ) × ((j : Job) × (command ≡ Ok j)
    × Answers L step opens j known rig (answer_bytes a.text) logged a.status) × Has logged)
answers_any_rig (Err e) L step opens command known rig Has other answers = tt
answers_any_rig (Ok a) L step opens command known rig Has other (logged, (j, is, answers), has) = (
  logged,
  (
    j,
    is,
    answers_by L step opens j known rig (answer_bytes a.text) logged a.status (subst IsNoExplanation is other)
        answers,
  ),
  has,
)

-- a fault of another command
fault_by : (command : Result Job WordsFault) (known rig : Option (List ℕ)) (fault : Fault) → IsNoExplanation command
    → IsFaultOf command known None fault → IsFaultOf command known rig fault
fault_by (Ok (Decode digits)) known rig fault other is = is
fault_by (Ok (Encode uid)) known rig fault other is = is
fault_by (Ok (Discover job)) known rig fault other is = is
fault_by (Ok (Run job)) known rig fault other is = is
fault_by (Ok (Explain job)) known rig fault other is = absurd other
fault_by (Err refusal) known rig fault other is = is

pub fault_any_rig : {E : Type 0} (r : Result Answered (Fault × E)) (command : Result Job WordsFault)
    (known rig : Option (List ℕ)) → IsNoExplanation command
    → IfErr r (λ e. IsFaultOf command known None e.0) → IfErr r (λ e. IsFaultOf command known rig e.0)
fault_any_rig (Ok a) command known rig other is = tt
fault_any_rig (Err e) command known rig other is = fault_by command known rig e.0 other is

-- a fault before a log is read
pub refused_printed : (fault : Fault) (answered : Answered) (was old new : Option (List ℕ)) (result : ℕ) → was ≡ old
    → HasTextAndStatus answered (line_of (fault_line fault)) (fault_status fault)
    → IsPrinted was new (answer_bytes answered.text) answered.status result
    → IsPrinted old new (line_of (fault_line fault)) (fault_status fault) result
refused_printed fault answered was old new result same has printed =
    subst (λ w. IsPrinted w new (line_of (fault_line fault)) (fault_status fault) result) same
    (subst (λ t. IsPrinted was new t (fault_status fault) result) has.text_is
    (subst (λ s. IsPrinted was new (answer_bytes answered.text) s result) has.status_is printed))
