-- The form of a log's entries in C, and how it is read back.
use Rattle.std.specs.Prelude.{ℕ, true, false, List, [], length, Option, Some, None, ◌==◌, nat_lt, slice_get}
use Rattle.std.specs.Prelude.{if◌then◌else◌}
use Rattle.rdm_wire.specs.declared.request.Request.{Request}
use Rattle.rdm_join.specs.declared.event.LineEvent.{LineEvent}
use Rattle.rdm_join.specs.declared.event.LineEvent.TheVariants as events
use Rattle.rdm_join.specs.declared.status.Status.{Status}
use Rattle.rdm_join.specs.declared.status.Status.TheVariants as ends
use Rattle.rdm_join.specs.Statuses.{number_of_status}
use Rattle.rdm_agent.specs.declared.fault.AgentFault.{AgentFault}
use Rattle.rdm_agent.specs.declared.fault.AgentFault.TheVariants as faults
use Rattle.rdm_agent.specs.declared.kind.Kind.{Kind}
use Rattle.rdm_agent.specs.declared.kind.Kind.TheVariants as kinds
use Rattle.rdm_log.specs.declared.entry.ClientId.{ClientId}
use Rattle.rdm_log.specs.declared.entry.Call.{Call}
use Rattle.rdm_log.specs.declared.entry.Call.TheVariants as calls
use Rattle.rdm_log.specs.declared.entry.Owner.{Owner}
use Rattle.rdm_log.specs.declared.entry.Owner.TheVariants as owners
use Rattle.rdm_log.specs.declared.entry.Entry.{Entry}
use Rattle.rdm_log.specs.declared.entry.Entry.TheVariants.{Join, Refuse, Accept, Ask, Send, Came, Finish}
use Rattle.rdm_log.specs.declared.entry.Entry.TheVariants.{Answer, Collect, Pause, Resume, Close}
use Rattle.rdm_handles.specs.Forms.{kind_of, class_of, number_of_fault, corrupt_uid}
use Rattle.rdm_handles.specs.Packets.{number_of_request}
use Rattle.rdm_handles.specs.declared.forms.EntryForC.{EntryForC}
use Rattle.rdm_handles.specs.declared.status.TheConstants as status

-- an entry of this kind without other fields
abbrev pub plain_entry : ℕ → EntryForC
plain_entry kind = record {
  number = 0;
  run = 0;
  corrupt = 0;
  target = 0;
  len = 0;
  joined = 0;
  kind = kind;
  call = 0;
  owner = 0;
  discovery = 0;
  status = 0;
  fault = 0;
  command_class = 0;
  sub_device = 0;
  pid = 0;
  client = 0;
  places = 0;
  cause = 0;
  has_client = false;
  has_failed = false;
}

-- the entry with a client
abbrev pub entry_with_client : ClientId → EntryForC → EntryForC
entry_with_client c e = record e { client = c.0; has_client = true }

-- the entry with a client, if there is one
abbrev pub entry_with_caller : Option ClientId → EntryForC → EntryForC
entry_with_caller None e = e
entry_with_caller (Some c) e = entry_with_client c e

-- the entry with a request; its parameter data are the entry's bytes
abbrev pub entry_with_request : Request → EntryForC → EntryForC
entry_with_request r e = record e {
  target = r.target;
  len = length r.param.items;
  command_class = number_of_request r.class;
  sub_device = r.sub_device;
  pid = r.pid;
}

-- the number of a discovery's kind
abbrev pub number_of_kind : Kind → ℕ
number_of_kind kinds.Full = 0
number_of_kind kinds.Incremental = 1

-- the entry with the call that was refused: 0 a join, 1 a submit, 2 a discover
abbrev pub entry_with_call : Call → EntryForC → EntryForC
entry_with_call (calls.Join n) e = record e { call = 0; places = n }
entry_with_call (calls.Submit r) e = entry_with_request r (record e { call = 1 })
entry_with_call (calls.Discover kind) e = record e { call = 2; discovery = number_of_kind kind }

-- the entry with the owner of its frame: 0 for a request, 1 for a run
abbrev pub entry_with_owner : Owner → EntryForC → EntryForC
entry_with_owner (owners.Request n) e = record e { owner = 0; number = n }
entry_with_owner (owners.Run r) e = record e { owner = 1; run = r }

-- the entry with what came; the bytes of a reply are the entry's bytes
abbrev pub entry_with_event : LineEvent → EntryForC → EntryForC
entry_with_event (events.Reply reply) e = record e { len = length reply.items }
entry_with_event events.Failed e = record e { has_failed = true }

-- An entry without its bytes. Fields that its kind doesn't have are 0.
abbrev pub form_of_entry : Entry → EntryForC
form_of_entry (Join c n) = record (entry_with_client c (plain_entry 0)) { places = n }
form_of_entry (Refuse c call cause) =
    entry_with_call call (entry_with_caller c (record (plain_entry 1) { cause = cause.0 }))
form_of_entry (Accept c n r) = entry_with_request r (entry_with_client c (record (plain_entry 2) { number = n }))
form_of_entry (Ask c n kind) =
    entry_with_client c (record (plain_entry 3) { number = n; discovery = number_of_kind kind })
form_of_entry (Send owner frame) = entry_with_owner owner (record (plain_entry 4) { len = length frame.items })
form_of_entry (Came event) = entry_with_event event (plain_entry 5)
form_of_entry (Finish n s len) =
    record (plain_entry 6) { number = n; joined = len; status = number_of_status s }
form_of_entry (Answer n r fault) =
    record (plain_entry 7) { number = n; run = r; corrupt = corrupt_uid fault; fault = number_of_fault fault }
form_of_entry (Collect c) = entry_with_client c (plain_entry 8)
form_of_entry Pause = plain_entry 9
form_of_entry Resume = plain_entry 10
form_of_entry Close = plain_entry 11

-- the parameter data of a submit that was refused; other calls have none
abbrev pub bytes_of_call : Call → List ℕ
bytes_of_call (calls.Submit r) = r.param.items
bytes_of_call _ = []

-- the reply that came; none if the line failed
abbrev pub bytes_of_event : LineEvent → List ℕ
bytes_of_event (events.Reply reply) = reply.items
bytes_of_event events.Failed = []

-- an entry's bytes: the frame that was sent, the reply that came, or the parameter data of a request
abbrev pub bytes_of_entry : Entry → List ℕ
bytes_of_entry (Refuse c call cause) = bytes_of_call call
bytes_of_entry (Accept c n r) = r.param.items
bytes_of_entry (Send owner frame) = frame.items
bytes_of_entry (Came event) = bytes_of_event event
bytes_of_entry _ = []

-- the status of reading the entry with this index into a buffer of this many bytes
abbrev pub status_of_entry : Option Entry → ℕ → ℕ
status_of_entry None room = status.NO_ENTRY
status_of_entry (Some e) room =
    if nat_lt room (length (bytes_of_entry e)) then status.BUFFER_TOO_SMALL else status.DONE

-- the status of reading an entry of this log
abbrev pub entry_status : List Entry → ℕ → ℕ → ℕ
entry_status h i room = status_of_entry (slice_get h i) room

-- Each entry is read back from its form and its bytes, so no two entries have the same.

-- the client that an entry names, if it names one
abbrev pub caller_in : EntryForC → Option ClientId
caller_in e = if e.has_client then Some (record { 0 = e.client }) else None

-- the request that an entry has, with its bytes as parameter data
abbrev pub request_in : EntryForC → List ℕ → Request
request_in e bytes = record {
  target = e.target;
  sub_device = e.sub_device;
  class = class_of e.command_class;
  pid = e.pid;
  param = record { items = bytes };
}

-- the refused call that an entry has
abbrev pub call_in : EntryForC → List ℕ → Call
call_in e bytes =
    if e.call == 0 then calls.Join e.places
    else (if e.call == 1 then calls.Submit (request_in e bytes) else calls.Discover (kind_of e.discovery))

-- the owner of an entry's frame: a request or a run
abbrev pub owner_in : EntryForC → Owner
owner_in e = if e.owner == 0 then owners.Request e.number else owners.Run e.run

-- the line's event in an entry: a reply, or that the line failed
abbrev pub event_in : EntryForC → List ℕ → LineEvent
event_in e bytes = if e.has_failed then events.Failed else events.Reply (record { items = bytes })

-- the status with this number, if there is one
abbrev pub status_in : ℕ → Status
status_in n =
    if n == 0 then ends.Completed
    else (if n == 1 then ends.WasBroadcast
    else (if n == 2 then ends.FailedToSend
    else (if n == 3 then ends.Timeout
    else (if n == 4 then ends.InvalidResponse
    else (if n == 5 then ends.TooShort
    else (if n == 6 then ends.WrongStart
    else (if n == 7 then ends.WrongSubStart
    else (if n == 8 then ends.LengthMismatch
    else (if n == 9 then ends.ParamLengthMismatch
    else (if n == 10 then ends.Checksum
    else (if n == 11 then ends.InvalidClass
    else (if n == 12 then ends.InvalidResponseType
    else (if n == 13 then ends.TransactionMismatch
    else (if n == 14 then ends.SubDeviceMismatch
    else (if n == 15 then ends.SourceMismatch
    else (if n == 16 then ends.DestMismatch
    else (if n == 17 then ends.ClassMismatch else ends.NoMemory)))))))))))))))))

-- the fault with this number, if there is one
abbrev pub fault_in : EntryForC → Option AgentFault
fault_in e =
    if e.fault == 0 then None
    else (if e.fault == 1 then Some (faults.Corrupt e.corrupt)
    else (if e.fault == 2 then Some faults.TooMany
    else (if e.fault == 3 then Some faults.Exhausted
    else (if e.fault == 4 then Some faults.LineFailed else Some faults.Aborted))))

-- the entry that a form and its bytes encode
abbrev pub entry_in : EntryForC → List ℕ → Entry
entry_in e bytes =
    if e.kind == 0 then Join (record { 0 = e.client }) e.places
    else (if e.kind == 1 then Refuse (caller_in e) (call_in e bytes) (record { 0 = e.cause })
    else (if e.kind == 2 then Accept (record { 0 = e.client }) e.number (request_in e bytes)
    else (if e.kind == 3 then Ask (record { 0 = e.client }) e.number (kind_of e.discovery)
    else (if e.kind == 4 then Send (owner_in e) (record { items = bytes })
    else (if e.kind == 5 then Came (event_in e bytes)
    else (if e.kind == 6 then Finish e.number (status_in e.status) e.joined
    else (if e.kind == 7 then Answer e.number e.run (fault_in e)
    else (if e.kind == 8 then Collect (record { 0 = e.client })
    else (if e.kind == 9 then Pause
    else (if e.kind == 10 then Resume else Close))))))))))
