-- The meaning of C's structs, and the status of a call with one that has none.
use Rattle.std.specs.Prelude.{ℕ, Bool, ◌^◌, true, false, List, length, Option, Some, None, ◌==◌, is_some, nat_lt}
use Rattle.std.specs.Prelude.{if◌then◌else◌}
use Rattle.rdm_wire.specs.Uid.{is_broadcast}
use Rattle.rdm_wire.specs.declared.device.Device.{Device}
use Rattle.rdm_wire.specs.declared.request.Request.{Request}
use Rattle.rdm_wire.specs.declared.request.ReqClass.{ReqClass}
use Rattle.rdm_wire.specs.declared.request.ReqClass.TheVariants as requests
use Rattle.rdm_wire.specs.declared.response.AckType.{AckType}
use Rattle.rdm_wire.specs.declared.response.AckType.TheVariants as acks
use Rattle.rdm_wire.specs.declared.response.RespClass.{RespClass}
use Rattle.rdm_wire.specs.declared.response.RespClass.TheVariants as responses
use Rattle.rdm_join.specs.declared.joiner.ReplyHead.{ReplyHead}
use Rattle.rdm_join.specs.Statuses.{number_of_status}
use Rattle.rdm_agent.specs.Fault.{fault_number}
use Rattle.rdm_agent.specs.declared.fault.AgentFault.{AgentFault}
use Rattle.rdm_agent.specs.declared.fault.AgentFault.TheVariants as faults
use Rattle.rdm_agent.specs.declared.kind.Kind.{Kind}
use Rattle.rdm_agent.specs.declared.kind.Kind.TheVariants as kinds
use Rattle.rdm_agent.specs.declared.search.Search.{Search}
use Rattle.rdm_agent.specs.declared.search.Search.TheVariants as searches
use Rattle.rdm_log.specs.declared.config.Setup.{Setup}
use Rattle.rdm_log.specs.declared.outcome.Completion.{Completion}
use Rattle.rdm_log.specs.declared.outcome.DiscoveryEnd.{DiscoveryEnd}
use Rattle.rdm_handles.specs.declared.forms.SetupForC.{SetupForC}
use Rattle.rdm_handles.specs.declared.forms.RequestForC.{RequestForC}
use Rattle.rdm_handles.specs.declared.forms.CompletionForC.{CompletionForC}
use Rattle.rdm_handles.specs.declared.forms.EndForC.{EndForC}
use Rattle.rdm_handles.specs.declared.forms.DeviceForC.{DeviceForC}
use Rattle.rdm_handles.specs.declared.status.TheConstants as status

-- the search with this number: 0 steady, 1 quick
abbrev pub search_of : ℕ → Search
search_of n = if n == 0 then searches.Steady else searches.Quick

-- the kind of discovery with this number: 0 full, 1 incremental
abbrev pub kind_of : ℕ → Kind
kind_of n = if n == 0 then kinds.Full else kinds.Incremental

-- the class with this number: 0 GET, 1 SET
abbrev pub class_of : ℕ → ReqClass
class_of n = if n == 0 then requests.Get else requests.Set

-- the status of a UID that must be a device's or a controller's own
abbrev pub uid_status : ℕ → ℕ
uid_status u = if nat_lt u (2 ^ 48) then (if is_broadcast u then status.BROADCAST_UID else status.DONE) else
    status.BAD_UID

-- the first fault of a setup
abbrev pub setup_status : SetupForC → ℕ
setup_status s =
    if uid_status s.source == 0
    then (if nat_lt 4080 s.places then status.TOO_MANY_PLACES
    else (if s.budget == 0 then status.NO_BUDGET
    else (if nat_lt 1 s.search then status.BAD_SEARCH else status.DONE)))
    else uid_status s.source

-- the setup with these numbers, if they have no fault
abbrev pub setup_of : SetupForC → Setup
setup_of s = record {
  config = record { source = s.source; places = s.places; budget = s.budget };
  search = search_of s.search;
}

-- the first fault of a request with these data
abbrev pub request_status : RequestForC → List ℕ → ℕ
request_status r bytes =
    if nat_lt r.target (2 ^ 48)
    then (if nat_lt 1 r.command_class then status.BAD_CLASS
    else (if nat_lt 231 (length bytes) then status.DATA_TOO_LONG else status.DONE))
    else status.BAD_UID

-- the request with these numbers and data, if they have no fault
abbrev pub request_of : RequestForC → List ℕ → Request
request_of r bytes = record {
  target = r.target;
  sub_device = r.sub_device;
  class = class_of r.command_class;
  pid = r.pid;
  param = record { items = bytes };
}

-- the number of a response type
abbrev pub number_of_ack : AckType → ℕ
number_of_ack acks.Ack = 0
number_of_ack acks.Timer = 1
number_of_ack acks.Nack = 2
number_of_ack acks.Overflow = 3

-- the number of a response class
abbrev pub number_of_class : RespClass → ℕ
number_of_class responses.Discovery = 0
number_of_class responses.Get = 1
number_of_class responses.Set = 2

-- how the request with this number ended; without a head its fields are 0
abbrev pub form_with_head : ℕ → ℕ → ℕ → Option ReplyHead → CompletionForC
form_with_head number len status None = record {
  number = number;
  len = len;
  status = status;
  ack = 0;
  response_class = 0;
  sub_device = 0;
  pid = 0;
  has_head = false;
  may_be_incomplete = false;
}
form_with_head number len status (Some head) = record {
  number = number;
  len = len;
  status = status;
  ack = number_of_ack head.ack;
  response_class = number_of_class head.class;
  sub_device = head.sub_device;
  pid = head.pid;
  has_head = true;
  may_be_incomplete = false;
}

-- how a request ended, without its data, and whether its answer may be incomplete
abbrev pub form_of_completion : ℕ → Completion → Bool → CompletionForC
form_of_completion number done flag =
    record (form_with_head number (length done.bytes.items) (number_of_status done.status) done.reply) {
      may_be_incomplete = flag;
    }

-- a fault's number; 0 for none
abbrev pub number_of_fault : Option AgentFault → ℕ
number_of_fault None = 0
number_of_fault (Some fault) = fault_number fault

-- the UID in a fault: that of a corrupt branch, or else 0
abbrev pub uid_of_fault : AgentFault → ℕ
uid_of_fault (faults.Corrupt u) = u
uid_of_fault _ = 0

-- the UID in a run's fault; 0 without a fault
abbrev pub corrupt_uid : Option AgentFault → ℕ
corrupt_uid None = 0
corrupt_uid (Some fault) = uid_of_fault fault

-- how a discovery with this many devices ended, without the devices
abbrev pub form_of_end : DiscoveryEnd → ℕ → EndForC
form_of_end end count = record {
  number = end.number;
  run = end.run;
  corrupt = corrupt_uid end.fault;
  count = count;
  fault = number_of_fault end.fault;
}

-- the number of a UID that may be missing; 0 if it is
abbrev pub number_or_0 : Option ℕ → ℕ
number_or_0 None = 0
number_or_0 (Some u) = u

-- a device with its control field and its binding UID
abbrev pub form_of_device : Device → DeviceForC
form_of_device d = record {
  uid = d.uid;
  binding = number_or_0 d.binding;
  control = d.control;
  has_binding = is_some d.binding;
}
