-- What is printed for a command, and the status.
use Rattle.std.specs.Prelude.{◌≡◌, ◌⊎◌, ◌*◌, ◌≤◌, [], ℕ, Bool, true, false, List, Option, codes, length, Result, Ok}
use Rattle.std.specs.Prelude.{IfSome, is_some}
use Rattle.std.specs.List.{All}
use Rattle.std.specs.Io.KnownBytes.{Appends, Keeps}
use Rattle.clap.specs.Words.{Text}
use Rattle.hex.specs.Hex.{decode_of, encode_lower}
use Rattle.rdm_wire.specs.UidText.{UidText, uid_text}
use Rattle.rdm_wire.specs.BranchText.{ReadsAs, branch_text}
use Rattle.rdm_wire.specs.declared.branch.BranchReply.{BranchReply}
use Rattle.rdm_wire.specs.declared.branch.BranchReply.TheVariants.{One, Silent, Collision}
use Rattle.rdm_wire.specs.declared.device.Device.{Device}
use Rattle.rdm_agent.specs.declared.fault.AgentFault.{AgentFault}
use Rattle.rdm_agent.specs.declared.search.Search.{Search}
use Rattle.rdm_agent.specs.declared.search.Search.TheVariants.{Steady, Quick}
use Rattle.rdm_agent.specs.declared.kind.Kind.{Kind}
use Rattle.rdm_agent.specs.declared.kind.Kind.TheVariants.{Full, Incremental}
use Rattle.rdm_line.specs.SimSteps.{NoFiveSuccessive}
use Rattle.rdm_files.specs.declared.scene.file.SceneFile.{SceneFile}
use Rattle.rdm_files.specs.declared.session.file.SessionFile.{SessionFile}
use Rattle.rdm_files.specs.declared.session.client.ClientFile.{ClientFile}
use Rattle.rdm_log.specs.declared.entry.Opening.{Opening}
use Rattle.rdm_log.specs.declared.entry.Entry.{Entry}
use Rattle.rdm_log.specs.log.Entries.{exchanges}
use Rattle.rdm_arguments.specs.declared.job.Streams.{Streams}
use Rattle.rdm_port.specs.declared.fault.Fault.{Fault}
use Rattle.rdm_port.specs.declared.fault.Fault.TheVariants.{Memory}
use Rattle.rdm_port.specs.Fault.{ReadsFile, scenes, sessions}
use Rattle.rdm_reports.specs.Report.{line_of}
use Rattle.rdm_reports.specs.SessionReport.{AllSettled, session_text}
use Rattle.rdm_serving.specs.LoggedOutcomes.{IsLogOf}
use Rattle.rdm_serving.specs.LoggedCalls.{HasCalls}
use Rattle.rdm_reports.specs.OpeningText.{discovery_log, session_log}
use Rattle.rdm_reports.specs.Writing.{IsCutShort}
use Rattle.rdm_reports.specs.declared.outcomes.Outcomes.{Outcomes}
use Rattle.rdm_reports.specs.SceneDiscovery.{IsSceneDiscovery, IsHonestReport}

-- how a reply to a branch is printed
abbrev pub reply_text : BranchReply → List ℕ
reply_text (One u) = uid_text u
reply_text Silent = codes "silent"
reply_text Collision = codes "collision"

-- the text says what the bytes with these digits mean
abbrev pub Decodes : List ℕ → List ℕ → Type 0
Decodes digits text =
    (bytes : List ℕ) × (reply : BranchReply) × (decode_of digits ≡ Ok bytes) × ReadsAs bytes reply
    × (text ≡ line_of (reply_text reply))

-- the text is the reply of the device with this UID, with seven preamble bytes
abbrev pub Encodes : List ℕ → List ℕ → Type 0
Encodes uid text = (u : ℕ) × UidText uid u × (text ≡ line_of (encode_lower (branch_text u 7)))

-- the kind of a discovery: incremental with `--incremental`, else full
abbrev pub kind_of : Bool → Kind
kind_of false = Full
kind_of true = Incremental

-- the search of a discovery: quick with `--quick`, else steady
abbrev pub search_of : Bool → Search
search_of false = Steady
search_of true = Quick

-- a run on the line of the scene that the file's bytes encode reports this, and its log has this text
pub record IsSceneRun (search : Search) (kind : Kind) (known : Option (List ℕ))
    (found : Result (List Device) (AgentFault × List Device)) (frames : ℕ) (logged : List ℕ) : Type 0 where
  pub file : SceneFile
  pub reads : ReadsFile scenes known file
  pub run : IsSceneDiscovery file.scene search kind file.known file.budget found frames
  -- if no five exchanges are lost in a row, it finds the devices
  pub honest : NoFiveSuccessive file.scene.losses.items
      → IsHonestReport file.scene search kind file.known file.budget found frames
  pub logs : logged ≡ discovery_log file.scene.source search kind file.known file.budget
      run.discovery.driven.exchanges

-- The text has the outcomes of all calls of the session that the file's bytes encode. They agree with a legal log,
-- which began with its source and budget, and has exactly its clients and calls, and at most as many exchanges as it
-- has turns. Each client has at most half as many calls, since each call needs a turn, and its outcome another one. The
-- other text is that log's, with how the file says that runs search. The order of the threads' calls isn't stated. If
-- streams are given, the line was opened by their paths.
pub record Runs (L : Type 0) (opens : Text → Text → L → Type 0) (streams : Option Streams) (known : Option (List ℕ))
    (text logged : List ℕ) (status : ℕ) : Type 0 where
  pub begins : IfSome streams (λ s. (line : L) × opens s.out.now s.replies.now line)
  pub file : SessionFile
  pub reads : ReadsFile (sessions (is_some streams)) known file
  pub outcomes : List Outcomes
  pub settled : AllSettled file.clients.items outcomes
  pub opening : Opening
  pub from : opening.source ≡ file.source
  pub frames : opening.budget ≡ file.budget
  pub searched : opening.search ≡ file.search
  pub entries : List Entry
  pub log : IsLogOf opening entries outcomes
  pub called : HasCalls entries file.clients.items
  pub in_turns : length (exchanges entries) ≤ file.turns
  pub client_turns : All (λ (c : ClientFile). 2 * length c.calls.items ≤ file.turns) file.clients.items
  pub prints : text ≡ session_text outcomes
  pub logs : logged ≡ session_log opening 0 entries
  pub ends : status ≡ 0

-- What a discovery logs with a fault: nothing, or the exchanges of its run if there is no memory for the report.
-- `Reports` relates a run's report, its exchanges and its status.
abbrev pub IsLogUnreported : (List ℕ → List ℕ → ℕ → Type 0) → Fault → List ℕ → Type 0
IsLogUnreported Reports fault logged =
    (logged ≡ []) ⊎ ((fault ≡ Memory) × (text : List ℕ) × (status : ℕ) × Reports text logged status)

-- the text is written, and the result is its status, or the writer failed before the text's end, and the result is 1
abbrev pub IsPrinted : Option (List ℕ) → Option (List ℕ) → List ℕ → ℕ → ℕ → Type 0
IsPrinted old new text status result =
    ((result ≡ status) × Appends old new text) ⊎ ((result ≡ 1) × IsCutShort old new text)

-- a log is written like a text, if there is one; if there is none, nothing is written, and the result is the status
abbrev pub IsLogged : Bool → Option (List ℕ) → Option (List ℕ) → List ℕ → ℕ → ℕ → Type 0
IsLogged false old new text status result = (result ≡ status) × Keeps old new
IsLogged true old new text status result = IsPrinted old new text status result
