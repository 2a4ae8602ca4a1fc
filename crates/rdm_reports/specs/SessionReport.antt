-- What is printed for a session.
use Rattle.std.specs.Prelude.{◌≡◌, ℕ, ◌+◌, Bool, true, false, List, [], ◌∷◌}
use Rattle.std.specs.Prelude.{◌++◌, Option, Some, None, map, if◌then◌else◌}
use Rattle.std.specs.Prelude.{codes, decimal, flat_map}
use Rattle.std.specs.List.{AllZip}
use Rattle.hex.specs.Hex.{encode_lower}
use Rattle.rdm_wire.specs.UidText.{uid_text}
use Rattle.rdm_wire.specs.declared.response.AckType.{AckType}
use Rattle.rdm_wire.specs.declared.response.AckType.TheVariants.{Ack, Timer, Nack, Overflow}
use Rattle.rdm_join.specs.Statuses.{number_of_status}
use Rattle.rdm_join.specs.declared.status.Status.{Status}
use Rattle.rdm_join.specs.declared.status.Status.TheVariants.{Completed}
use Rattle.rdm_join.specs.declared.joiner.ReplyHead.{ReplyHead}
use Rattle.rdm_agent.specs.declared.fault.AgentFault.{AgentFault}
use Rattle.rdm_log.specs.declared.outcome.Completion.{Completion}
use Rattle.rdm_client.specs.declared.told.Told.{Told}
use Rattle.rdm_reports.specs.Report.{line_of, fault_text}
use Rattle.rdm_reports.specs.declared.outcomes.Outcomes.{Outcomes}
use Rattle.rdm_reports.specs.declared.outcomes.Discovered.{Discovered}
use Rattle.rdm_files.specs.declared.session.call.ClientCall.{ClientCall}
use Rattle.rdm_files.specs.declared.session.call.ClientCall.TheVariants.{Submit, Discover}
use Rattle.rdm_files.specs.declared.session.client.ClientFile.{ClientFile}

-- the owner of an outcome: the client with this number, and its request or discovery with that number
abbrev pub whose : ℕ → List ℕ → ℕ → List ℕ
whose client kind number = codes "client " ++ decimal client ++ kind ++ decimal number ++ codes ": "

-- a response type as two digits, between blanks
abbrev pub type_text : AckType → List ℕ
type_text Ack = codes " 00 "
type_text Timer = codes " 01 "
type_text Nack = codes " 02 "
type_text Overflow = codes " 03 "

-- data in hexadecimal, or a hyphen if there are none
abbrev pub data_text : List ℕ → List ℕ
data_text [] = codes "-"
data_text (byte ∷ bytes) = encode_lower (byte ∷ bytes)

-- the type and the data of the reply, if the request is completed
abbrev pub completed_text : Status → Option ReplyHead → List ℕ → List ℕ
completed_text Completed (Some head) bytes = type_text head.ack ++ data_text bytes
completed_text _ _ bytes = []

-- a request's status, and the reply
abbrev pub completion_text : Completion → List ℕ
completion_text done = decimal (number_of_status done.status) ++ completed_text done.status done.reply done.bytes.items

-- the line of a request: its client, its number, its status and the reply
abbrev pub request_line : ℕ → ℕ → Told → List ℕ
request_line client number told = line_of (whose client (codes " request ") number ++ completion_text told.done)

-- for each UID a blank and its text
abbrev pub uids_text : List ℕ → List ℕ
uids_text uids = flat_map (λ u. 32 ∷ uid_text u) uids

-- the devices' UIDs, or the fault
abbrev pub discovered_text : Option AgentFault → List ℕ → List ℕ
discovered_text None uids = codes "ok" ++ uids_text uids
discovered_text (Some fault) uids = fault_text fault

-- the line of a discovery: its client, its number, and the devices or the fault
abbrev pub discovery_line : ℕ → ℕ → Discovered → List ℕ
discovery_line client number d =
    line_of (whose client (codes " discovery ") number ++ discovered_text d.fault d.uids.items)

-- the texts of all elements, which are numbered from this number on
abbrev pub numbered : {A : Type 0} → (ℕ → A → List ℕ) → ℕ → List A → List ℕ
numbered text n [] = []
numbered text n (x ∷ xs) = text n x ++ numbered text (n + 1) xs

-- the lines of a client's requests, numbered from 0
abbrev pub request_lines : ℕ → List Told → List ℕ
request_lines client requests = numbered (request_line client) 0 requests

-- the lines of a client's discoveries, numbered from 0
abbrev pub discovery_lines : ℕ → List Discovered → List ℕ
discovery_lines client discoveries = numbered (discovery_line client) 0 discoveries

-- the lines of a client: those of its requests, and then those of its discoveries
abbrev pub client_text : ℕ → Outcomes → List ℕ
client_text client o = request_lines client o.requests.items ++ discovery_lines client o.discoveries.items

-- the lines of all clients, which are numbered from 0
abbrev pub session_text : List Outcomes → List ℕ
session_text outcomes = numbered client_text 0 outcomes

-- whether a call of a session file is a request
abbrev pub is_request : ClientCall → Bool
is_request (Submit request) = true
is_request (Discover kind) = false

-- whether a call of a session file is a discovery
abbrev pub is_ask : ClientCall → Bool
is_ask (Submit request) = false
is_ask (Discover kind) = true

-- the indices of the calls of one kind, counted from n
abbrev pub indices_of : (ClientCall → Bool) → ℕ → List ClientCall → List ℕ
indices_of is_of_kind n [] = []
indices_of is_of_kind n (call ∷ calls) =
    if is_of_kind call then n ∷ indices_of is_of_kind (n + 1) calls
    else indices_of is_of_kind (n + 1) calls

-- Each request has one outcome, in the order of the calls, with its callback's tag. So has each discovery. A callback's
-- tag is the index of its call.
pub record IsSettled (calls : List ClientCall) (o : Outcomes) : Type 0 where
  pub requests : map (λ (t : Told). t.tag) o.requests.items ≡ indices_of is_request 0 calls
  pub discoveries : map (λ (d : Discovered). d.tag) o.discoveries.items ≡ indices_of is_ask 0 calls

-- there are outcomes for each client, and each client is settled
abbrev pub AllSettled : List ClientFile → List Outcomes → Type 0
AllSettled = AllZip (λ c o. IsSettled c.calls.items o)
