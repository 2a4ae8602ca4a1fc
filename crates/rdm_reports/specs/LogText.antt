-- The text of a log: each entry is a JSON object on a line of its own.
use Rattle.std.specs.Prelude.{ℕ, List, [], ◌++◌, Option, Some, None, codes, decimal, flat_map, slice_get}
use Rattle.std.specs.Prelude.{◌==◌, if◌then◌else◌}
use Rattle.std.specs.Option.{option_map_or}
use Rattle.hex.specs.Hex.{encode_lower}
use Rattle.rdm_wire.specs.UidText.{uid_text}
use Rattle.rdm_wire.specs.declared.request.Request.{Request}
use Rattle.rdm_wire.specs.declared.request.ReqClass.{ReqClass}
use Rattle.rdm_wire.specs.declared.request.ReqClass.TheVariants.{Get, Set}
use Rattle.rdm_join.specs.Statuses.{number_of_status}
use Rattle.rdm_join.specs.declared.event.LineEvent.{LineEvent}
use Rattle.rdm_join.specs.declared.event.LineEvent.TheVariants.{Reply, Failed}
use Rattle.rdm_agent.specs.Fault.{fault_number}
use Rattle.rdm_agent.specs.declared.fault.AgentFault.{AgentFault}
use Rattle.rdm_agent.specs.declared.fault.AgentFault.TheVariants.{Corrupt}
use Rattle.rdm_agent.specs.declared.kind.Kind.{Kind}
use Rattle.rdm_agent.specs.declared.kind.Kind.TheVariants.{Full, Incremental}
use Rattle.rdm_line.specs.Events.{Exchange}
use Rattle.rdm_log.specs.declared.entry.Call.{Call}
use Rattle.rdm_log.specs.declared.entry.Call.TheVariants as calls
use Rattle.rdm_log.specs.declared.entry.ClientId.{ClientId}
use Rattle.rdm_log.specs.declared.entry.Owner.{Owner}
use Rattle.rdm_log.specs.declared.entry.Owner.TheVariants as owners
use Rattle.rdm_log.specs.declared.entry.Entry.{Entry}
use Rattle.rdm_log.specs.declared.entry.Entry.TheVariants as entries
use Rattle.rdm_wire.specs.Bytes.{two_bytes}
use Rattle.rdm_reports.specs.SessionReport.{numbered}

-- a member of an object after its first one: a key and a number
abbrev pub number_member : List ℕ → ℕ → List ℕ
number_member key n = codes ",\"" ++ key ++ codes "\":" ++ decimal n

-- a key and a text without characters that JSON escapes
abbrev pub text_member : List ℕ → List ℕ → List ℕ
text_member key text = codes ",\"" ++ key ++ codes "\":\"" ++ text ++ codes "\""

-- a key and bytes in hexadecimal
abbrev pub bytes_member : List ℕ → List ℕ → List ℕ
bytes_member key bytes = text_member key (encode_lower bytes)

-- the key of a request, as session files have it
abbrev pub class_key : ReqClass → List ℕ
class_key Get = codes "get"
class_key Set = codes "set"

-- a request, as session files have it
abbrev pub request_members : Request → List ℕ
request_members r =
    text_member (class_key r.class) (uid_text r.target) ++ bytes_member (codes "pid") (two_bytes r.pid)
    ++ number_member (codes "sub") r.sub_device ++ bytes_member (codes "param") r.param.items

-- the kind of a discovery, as session files have it
abbrev pub kind_member : Kind → List ℕ
kind_member Full = text_member (codes "discover") (codes "full")
kind_member Incremental = text_member (codes "discover") (codes "incremental")

-- a call, as session files have it; a join has its queue depth
abbrev pub call_members : Call → List ℕ
call_members (calls.Join places) = number_member (codes "places") places
call_members (calls.Submit request) = request_members request
call_members (calls.Discover kind) = kind_member kind

-- the client of a call; a join has none
abbrev pub caller_member : Option ClientId → List ℕ
caller_member None = []
caller_member (Some client) = number_member (codes "client") client.0

-- the client and the number of a call that was accepted
abbrev pub asked_members : ClientId → ℕ → List ℕ
asked_members client number = number_member (codes "client") client.0 ++ number_member (codes "number") number

-- the owner of a frame: a request or a run
abbrev pub owner_member : Owner → List ℕ
owner_member (owners.Request number) = number_member (codes "request") number
owner_member (owners.Run number) = number_member (codes "run") number

-- what came: the bytes, none for silence, or that the line failed
abbrev pub event_member : LineEvent → List ℕ
event_member (Reply bytes) = bytes_member (codes "reply") bytes.items
event_member Failed = codes ",\"failed\":true"

-- the UID that a fault names
abbrev pub corrupt_member : AgentFault → List ℕ
corrupt_member (Corrupt uid) = text_member (codes "uid") (uid_text uid)
corrupt_member _ = []

-- a run's fault, if it had one
abbrev pub fault_members : Option AgentFault → List ℕ
fault_members None = []
fault_members (Some fault) = number_member (codes "fault") (fault_number fault) ++ corrupt_member fault

-- the name of an entry
abbrev pub entry_name : Entry → List ℕ
entry_name (entries.Join client places) = codes "join"
entry_name (entries.Refuse client call cause) = codes "refuse"
entry_name (entries.Accept client number request) = codes "accept"
entry_name (entries.Ask client number kind) = codes "ask"
entry_name (entries.Send owner frame) = codes "send"
entry_name (entries.Came event) = codes "came"
entry_name (entries.Finish number status len) = codes "finish"
entry_name (entries.Answer number run fault) = codes "answer"
entry_name (entries.Collect client) = codes "collect"
entry_name entries.Pause = codes "pause"
entry_name entries.Resume = codes "resume"
entry_name entries.Close = codes "close"

-- the members of an entry
abbrev pub entry_members : Entry → List ℕ
entry_members (entries.Join client places) =
    number_member (codes "client") client.0 ++ number_member (codes "places") places
entry_members (entries.Refuse client call cause) =
    caller_member client ++ call_members call ++ number_member (codes "cause") cause.0
entry_members (entries.Accept client number request) = asked_members client number ++ request_members request
entry_members (entries.Ask client number kind) = asked_members client number ++ kind_member kind
entry_members (entries.Send owner frame) = owner_member owner ++ bytes_member (codes "frame") frame.items
entry_members (entries.Came event) = event_member event
entry_members (entries.Finish number status len) =
    number_member (codes "number") number ++ number_member (codes "status") (number_of_status status)
    ++ number_member (codes "length") len
entry_members (entries.Answer number run fault) =
    number_member (codes "number") number ++ number_member (codes "run") run ++ fault_members fault
entry_members (entries.Collect client) = number_member (codes "client") client.0
entry_members entries.Pause = []
entry_members entries.Resume = []
entry_members entries.Close = []

-- the line of an entry: an object with its name and its members
abbrev pub entry_line : Entry → List ℕ
entry_line entry = codes "{\"entry\":\"" ++ entry_name entry ++ codes "\"" ++ entry_members entry ++ codes "}\n"

-- the text of a log: its entries, oldest first
abbrev pub log_text : List Entry → List ℕ
log_text log = flat_map entry_line log

-- the operation of a discovery, by the low byte of the PID of its frame (E1.20, packet format)
abbrev pub operation_of : ℕ → List ℕ
operation_of pid =
    if pid == 1 then codes "branch" else (if pid == 2 then codes "mute" else codes "unmute")

-- the operation of a frame; the byte at offset 22 is the low byte of its PID
abbrev pub operation_text : List ℕ → List ℕ
operation_text frame = option_map_or operation_of (slice_get frame 22) (codes "unmute")

-- the line of a discovery's exchange: its number, its operation, its frame and what came after it
abbrev pub exchange_line : ℕ → Exchange → List ℕ
exchange_line n x =
    codes "{\"number\":" ++ decimal n ++ text_member (codes "operation") (operation_text x.0.items)
    ++ bytes_member (codes "frame") x.0.items ++ event_member x.1 ++ codes "}\n"

-- the text of a discovery's exchanges, numbered from 0
abbrev pub exchanges_text : List Exchange → List ℕ
exchanges_text exchanges = numbered exchange_line 0 exchanges
