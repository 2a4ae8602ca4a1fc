-- What is said of a session that was read, and of one that was served.
use Rattle.std.proofs.Common.{◌≡◌, ℕ, Bool, List, Option, Result, Ok, Err}
use Rattle.std.proofs.Common.{refl}
use Rattle.std.specs.Prelude.{IfOk, IfSome, OnOk, is_some}
use Rattle.clap.specs.Words.{Text}
use Rattle.rdm_files.specs.declared.session.file.SessionFile.{SessionFile}
use Rattle.rdm_reports.specs.OpeningText.{session_log}
use Rattle.rdm_reports.specs.SessionReport.{session_text}
use Rattle.rdm_reports.specs.Writing.{LogState, Logs}
use Rattle.rdm_serving.specs.Serving.{IsServedBy, IsSetUp}
use Rattle.rdm_serving.specs.declared.serving.Served.{Served}
use Rattle.rdm_serving.specs.declared.serving.ServeFault.{ServeFault}
use Rattle.rdm_serving.specs.declared.serving.ServeFault.TheVariants as serves
use Rattle.rdm_serving.proofs.TurnLemmas.{calls_in_turns}
use Rattle.rdm_arguments.specs.declared.job.Streams.{Streams}
use Rattle.rdm_arguments.specs.declared.port_kind.PortKind.{PortKind}
use Rattle.rdm_port.specs.Fault.{ReadsFile, IsSessionFault, sessions}
use Rattle.rdm_port.specs.Outcome.{Runs}
use Rattle.rdm_port.specs.body.Faults.{fault_of_serve}
use Rattle.rdm_port.specs.body.Logged.{IsOpened, HasLogged}
use Rattle.rdm_port.specs.body.Texts.{answer_bytes}
use Rattle.rdm_port.specs.declared.answer.Answered.{Answered}
use Rattle.rdm_port.specs.declared.fault.Fault.{Fault}
use Rattle.rdm_port.proofs.LoggedLemmas.{opened_then}

-- why a session that was read isn't answered
pub served_fault : (own_line : Bool) (known : Option (List ℕ)) (file : SessionFile)
    → ReadsFile (sessions own_line) known file → (e : ServeFault) (f : Fault) → f ≡ fault_of_serve e
    → IsSessionFault own_line known f
served_fault own_line known file reads serves.Memory f is = rw is tt
served_fault own_line known file reads serves.Log f is = rw is (file, reads)
served_fault own_line known file reads serves.Turns f is = rw is (file, reads)
served_fault own_line known file reads serves.Defect f is = rw is (file, reads)

-- a session that was served, whose text is printed and whose log is written
pub served_then : {E : Type 0} (L : Type 0) (opens : Text → Text → L → Type 0) (streams : Option Streams)
    (known : Option (List ℕ)) (file : SessionFile) (r : Result Answered (Fault × E)) (port : PortKind) (s : Served)
    (wanted : Bool) (old mid new : LogState)
    → IfSome streams (λ s. (line : L) × opens s.out.now s.replies.now line)
    → ReadsFile (sessions (is_some streams)) known file
    → IsOpened wanted old mid → IsServedBy port file.clients.items file.ring file.turns s
    → IsSetUp file.source file.budget file.search s.session
    → IfOk r (λ a. answer_bytes a.text ≡ session_text s.outcomes.items) → IfOk r (λ a. a.status ≡ 0)
    → OnOk r (Logs mid new (session_log s.session.opening 0 s.session.entries))
    → IfOk r (λ a. (logged : List ℕ) × Runs L opens streams known (answer_bytes a.text) logged a.status
    × HasLogged wanted old new logged)
served_then L opens streams known file (Err e) port s wanted old mid new begins reads opened by set text status logs =
    tt
served_then L opens streams known file (Ok a) port s wanted old mid new begins reads opened by set text status logs = (
  session_log s.session.opening 0 s.session.entries,
  record {
    begins = begins;
    file = file;
    reads = reads;
    outcomes = s.outcomes.items;
    settled = by.settled;
    opening = s.session.opening;
    from = set.from;
    frames = set.frames;
    searched = set.searched;
    entries = s.session.entries;
    log = by.logged;
    called = by.called;
    in_turns = by.in_turns;
    client_turns = calls_in_turns file.clients.items s.outcomes.items file.turns by.settled by.client_turns;
    prints = text;
    logs = refl;
    ends = status;
  },
  opened_then wanted old mid new (session_log s.session.opening 0 s.session.entries) opened logs,
)
