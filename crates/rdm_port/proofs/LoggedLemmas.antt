-- What a log has got while a command was answered, and what is printed of it.
use Rattle.std.proofs.Common.{◌≡◌, ◌⊎◌, inl, inr, ℕ, Bool, true, false, List, [], Option, None, Result, Ok, Err, refl}
use Rattle.std.proofs.Common.{sym, ap, subst, ◌∙◌}
use Rattle.std.specs.Prelude.{IfOk, IfErr, OnErr}
use Rattle.std.specs.Io.KnownBytes.{Keeps}
use Rattle.std.proofs.KnownBytes.{Appends-nil, Keeps-trans}
use Rattle.rdm_reports.specs.Report.{line_of}
use Rattle.rdm_reports.specs.Writing.{IsWritten, LogState, LogsFrom, Logs}
use Rattle.rdm_reports.proofs.WritingLemmas.{kept_appends}
use Rattle.rdm_port.specs.Fault.{fault_line, fault_status}
use Rattle.rdm_port.specs.Outcome.{IsLogUnreported, IsLogged, IsPrinted}
use Rattle.rdm_port.specs.Program.{has_log}
use Rattle.rdm_port.specs.body.Logged.{IsOpened, HasTextAndStatus, HasLogged, failed_or, status_after}
use Rattle.rdm_port.specs.body.Texts.{answer_bytes}
use Rattle.rdm_port.specs.declared.answer.Answered.{Answered}
use Rattle.rdm_port.specs.declared.fault.Fault.{Fault}
use Rattle.rdm_port.specs.declared.fault.Fault.TheVariants.{Memory}
use Rattle.rdm_arguments.specs.declared.job.Job.{Job}
use Rattle.rdm_arguments.specs.declared.job.WordsFault.{WordsFault}

-- what is written to a writer whose bytes were kept before
written_after : (failed : Bool) (a b c : Option (List ℕ)) (text : List ℕ) → Keeps a b → IsWritten failed b c text
    → IsWritten failed a c text
written_after false a b c text kept wrote = kept_appends a b c text kept wrote
written_after true a b c text kept (front, rest, is, some, wrote) =
    (front, rest, is, some, kept_appends a b c front kept wrote)

-- a log that was opened, and then written
pub opened_then : (wanted : Bool) (old mid new : LogState) (text : List ℕ) → IsOpened wanted old mid → Logs mid new text
    → HasLogged wanted old new text
opened_then wanted old mid new text opened (still, wrote) =
    by_wanted wanted (subst (λ o. LogsFrom o false new.is_failed mid.contents new.contents text) opened.is_open
    (subst (λ f. LogsFrom mid.is_open f new.is_failed mid.contents new.contents text) opened.is_failed wrote))
  where
    by_wanted : (w : Bool) → LogsFrom w false new.is_failed mid.contents new.contents text → HasLogged w old new text
    by_wanted false (same, kept) = (same, Keeps-trans old.contents mid.contents new.contents opened.bytes kept)
    by_wanted true written =
        written_after new.is_failed old.contents mid.contents new.contents text opened.bytes written

-- a log that hasn't failed, and whose bytes were kept
pub nothing_logged : (wanted : Bool) (old new : LogState) → new.is_failed ≡ false → Keeps old.contents new.contents
    → HasLogged wanted old new []
nothing_logged false old new sound kept = (sound, kept)
nothing_logged true old new sound kept =
    subst (λ f. IsWritten f old.contents new.contents []) (sym sound)
    (kept_appends old.contents new.contents new.contents [] kept (Appends-nil new.contents))

-- one that was opened only
pub only_opened : (wanted : Bool) (old new : LogState) → IsOpened wanted old new → HasLogged wanted old new []
only_opened wanted old new opened = nothing_logged wanted old new opened.is_failed opened.bytes

-- one that was opened, and then stayed as it was
pub opened_same : (wanted : Bool) (old mid new : LogState) → IsOpened wanted old mid → new ≡ mid
    → HasLogged wanted old new []
opened_same wanted old mid new opened same =
    subst (λ l. HasLogged wanted old l []) (sym same) (only_opened wanted old mid opened)

-- what the status says of it
settled_log : (wanted : Bool) (old new : LogState) (text : List ℕ) (status : ℕ) → HasLogged wanted old new text
    → IsLogged wanted old.contents new.contents text status (status_after new status)
settled_log false old new text status (sound, kept) = (by_failed new.is_failed sound, kept)
  where
    by_failed : (f : Bool) → f ≡ false → failed_or f status ≡ status
    by_failed false is = refl
    by_failed true is = cc
settled_log true old new text status written = by_failed new.is_failed written
  where
    by_failed : (f : Bool) → IsWritten f old.contents new.contents text
        → IsPrinted old.contents new.contents text status (failed_or f status)
    by_failed false wrote = inl (refl, wrote)
    by_failed true cut = inr (refl, cut)

-- an answer or a fault that is printed, after its log
pub printed_after : {E : Type 0} (r : Result Answered (Fault × E)) (Done : List ℕ → List ℕ → ℕ → Type 0)
    (Failed : Fault → Type 0)
    (With : Fault → List ℕ → Type 0) (wanted : Bool) (old new : LogState) (was is : Option (List ℕ)) (result : ℕ)
    → IfOk r (λ a. (logged : List ℕ) × Done (answer_bytes a.text) logged a.status × HasLogged wanted old new logged)
    → IfErr r (λ e. Failed e.0)
    → IfErr r (λ e. (logged : List ℕ) × With e.0 logged × HasLogged wanted old new logged)
    → IfOk r (λ a. IsPrinted was is (answer_bytes a.text) (status_after new a.status) result)
    → IfErr r (λ e. IsPrinted was is (line_of (fault_line e.0)) (status_after new (fault_status e.0)) result)
    → (text logged : List ℕ) × (status status_printed : ℕ)
    × (Done text logged status ⊎ ((fault : Fault) × Failed fault × (text ≡ line_of (fault_line fault))
    × With fault logged × (status ≡ fault_status fault)))
    × IsLogged wanted old.contents new.contents logged status status_printed
    × IsPrinted was is text status_printed result
printed_after (Ok a) Done Failed With wanted old new was is result (logged, done, has) _ _ printed _ = (
  answer_bytes a.text,
  logged,
  a.status,
  status_after new a.status,
  inl done,
  settled_log wanted old new logged a.status has,
  printed,
)
printed_after (Err e) Done Failed With wanted old new was is result _ failed (logged, kept, has) _ printed = (
  line_of (fault_line e.0),
  logged,
  fault_status e.0,
  status_after new (fault_status e.0),
  inr (e.0, failed, refl, kept, refl),
  settled_log wanted old new logged (fault_status e.0) has,
  printed,
)

-- a fault after which nothing was logged
pub fault_logged_none : {E : Type 0} (r : Result Answered (Fault × E)) (wanted : Bool) (old new : LogState)
    → OnErr r (HasLogged wanted old new [])
    → IfErr r (λ e. (logged : List ℕ) × (logged ≡ []) × HasLogged wanted old new logged)
fault_logged_none (Err e) wanted old new has = ([], refl, has)
fault_logged_none (Ok a) wanted old new has = tt

-- an answer to a job, with its log
pub done_logged : {E : Type 0} (r : Result Answered (Fault × E)) (command : Result Job WordsFault) (job : Job)
    (Done : Job → List ℕ → List ℕ → ℕ → Type 0) (old new : LogState)
    → command ≡ Ok job
    → IfOk r (λ a. (logged : List ℕ) × Done job (answer_bytes a.text) logged a.status
    × HasLogged (has_log (Ok job)) old new logged)
    → IfOk r (λ a. (logged : List ℕ)
    × ((j : Job) × (command ≡ Ok j) × Done j (answer_bytes a.text) logged a.status)
    × HasLogged (has_log command) old new logged)
done_logged (Err e) command job Done old new is done = tt
done_logged (Ok a) command job Done old new is (logged, done, has) =
    (logged, (job, is, done), subst (λ c. HasLogged (has_log c) old new logged) (sym is) has)

-- a fault of a job, with its log
pub fault_logged : {E : Type 0} (r : Result Answered (Fault × E)) (command : Result Job WordsFault) (job : Job)
    (With : Result Job WordsFault → Fault → List ℕ → Type 0) (old new : LogState)
    → command ≡ Ok job
    → IfErr r (λ e. (logged : List ℕ) × With (Ok job) e.0 logged × HasLogged (has_log (Ok job)) old new logged)
    → IfErr r (λ e. (logged : List ℕ) × With command e.0 logged × HasLogged (has_log command) old new logged)
fault_logged (Ok a) command job With old new is failed = tt
fault_logged (Err e) command job With old new is (logged, kept, has) = (
  logged,
  subst (λ c. With c e.0 logged) (sym is) kept,
  subst (λ c. HasLogged (has_log c) old new logged) (sym is) has,
)

-- what is printed of an answer
pub text_printed : (to_print after : Answered) (log : LogState) (was is : Option (List ℕ)) (text : List ℕ)
    (status result : ℕ) → HasTextAndStatus to_print text status
    → answer_bytes after.text ≡ answer_bytes to_print.text → after.status ≡ status_after log to_print.status
    → IsPrinted was is (answer_bytes after.text) after.status result
    → IsPrinted was is text (status_after log status) result
text_printed to_print after log was is text status result of text_kept status_kept printed =
    subst (λ t. IsPrinted was is t (status_after log status) result) (text_kept ∙ of.text_is)
    (subst (λ s. IsPrinted was is (answer_bytes after.text) s result) (status_kept ∙ ap (status_after log) of.status_is)
    printed)

pub answer_printed : {E : Type 0} (r : Result Answered (Fault × E)) (to_print after : Answered) (log : LogState)
    (was is : Option (List ℕ)) (result : ℕ)
    → IfOk r (λ a. HasTextAndStatus to_print (answer_bytes a.text) a.status)
    → answer_bytes after.text ≡ answer_bytes to_print.text
    → after.status ≡ status_after log to_print.status
    → IsPrinted was is (answer_bytes after.text) after.status result
    → IfOk r (λ a. IsPrinted was is (answer_bytes a.text) (status_after log a.status) result)
answer_printed (Err e) to_print after log was is result of text_kept status_kept printed = tt
answer_printed (Ok a) to_print after log was is result of text_kept status_kept printed =
    text_printed to_print after log was is (answer_bytes a.text) a.status result of text_kept status_kept printed

pub fault_printed : {E : Type 0} (r : Result Answered (Fault × E)) (to_print after : Answered) (log : LogState)
    (was is : Option (List ℕ)) (result : ℕ)
    → IfErr r (λ e. HasTextAndStatus to_print (line_of (fault_line e.0)) (fault_status e.0))
    → answer_bytes after.text ≡ answer_bytes to_print.text → after.status ≡ status_after log to_print.status
    → IsPrinted was is (answer_bytes after.text) after.status result
    → IfErr r (λ e. IsPrinted was is (line_of (fault_line e.0)) (status_after log (fault_status e.0)) result)
fault_printed (Ok a) to_print after log was is result of text_kept status_kept printed = tt
fault_printed (Err e) to_print after log was is result of text_kept status_kept printed =
    text_printed to_print after log was is (line_of (fault_line e.0)) (fault_status e.0) result of text_kept status_kept
    printed

-- a run that is logged, whose report is printed
pub report_logged : {E : Type 0} (r : Result Answered (Fault × E)) (Reports : List ℕ → List ℕ → ℕ → Type 0)
    (text logged : List ℕ) (status : ℕ) (wanted : Bool) (old new : LogState) → HasLogged wanted old new logged
    → Reports text logged status → IfOk r (λ a. answer_bytes a.text ≡ text) → IfOk r (λ a. a.status ≡ status)
    → IfOk r (λ a. (written : List ℕ) × Reports (answer_bytes a.text) written a.status
    × HasLogged wanted old new written)
report_logged (Err e) Reports text logged status wanted old new has reports printed ended = tt
report_logged (Ok a) Reports text logged status wanted old new has reports printed ended = (
  logged,
  subst (λ t. Reports t logged a.status) (sym printed) (subst (λ s. Reports text logged s) (sym ended) reports),
  has,
)

-- a run that is logged, whose report finds no memory
pub memory_logged : {E : Type 0} (r : Result Answered (Fault × E)) (Reports : List ℕ → List ℕ → ℕ → Type 0)
    (text logged : List ℕ) (status : ℕ) (wanted : Bool) (old new : LogState) → HasLogged wanted old new logged
    → Reports text logged status → IfErr r (λ e. e.0 ≡ Memory)
    → IfErr r (λ e. (written : List ℕ) × IsLogUnreported Reports e.0 written × HasLogged wanted old new written)
memory_logged (Ok a) Reports text logged status wanted old new has reports memory = tt
memory_logged (Err e) Reports text logged status wanted old new has reports memory =
    (logged, inr (memory, text, status, reports), has)

-- a log whose contents aren't known
pub unknown_log : (wanted : Bool) (new : Option (List ℕ)) (text : List ℕ) (status result : ℕ)
    → IsLogged wanted None new text status result → IsLogged wanted None None text status result
unknown_log false new text status result (is, kept) = (is, tt)
unknown_log true new text status result (inl (is, wrote)) = inl (is, tt)
unknown_log true new text status result (inr (is, (front, rest, whole, some, wrote))) =
    inr (is, (front, rest, whole, some, tt))
