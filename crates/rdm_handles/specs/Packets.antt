-- Packets for C: the meaning of its structs, and the status of a call with one that has none.
use Rattle.std.specs.Prelude.{ℕ, ◌^◌, Bool, true, false, List, [], length, Option, Some, None, Result, Ok, Err, ◌==◌}
use Rattle.std.specs.Prelude.{is_some, nat_lt, nat_le, if◌then◌else◌}
use Rattle.rdm_wire.specs.declared.device.Device.{Device}
use Rattle.rdm_wire.specs.declared.command.Command.{Command}
use Rattle.rdm_wire.specs.declared.command.Command.TheVariants as commands
use Rattle.rdm_wire.specs.declared.request.ReqClass.{ReqClass}
use Rattle.rdm_wire.specs.declared.request.ReqClass.TheVariants as requests
use Rattle.rdm_wire.specs.declared.mute_ack.MuteAck.{MuteAck}
use Rattle.rdm_wire.specs.declared.response.Response.{Response}
use Rattle.rdm_wire.specs.declared.response.AckType.{AckType}
use Rattle.rdm_wire.specs.declared.response.AckType.TheVariants as acks
use Rattle.rdm_wire.specs.declared.response.RespClass.{RespClass}
use Rattle.rdm_wire.specs.declared.response.RespClass.TheVariants as responses
use Rattle.rdm_wire.specs.declared.response.PacketFault.{PacketFault}
use Rattle.rdm_wire.specs.declared.response.PacketFault.TheVariants as faults
use Rattle.rdm_wire.specs.declared.uid.UidFault.{UidFault}
use Rattle.rdm_wire.specs.declared.uid.UidFault.TheVariants as texts
use Rattle.rdm_handles.specs.Forms.{uid_status, number_of_ack, number_of_class, number_or_0}
use Rattle.rdm_handles.specs.declared.forms.CommandForC.{CommandForC}
use Rattle.rdm_handles.specs.declared.forms.DeviceForC.{DeviceForC}
use Rattle.rdm_handles.specs.declared.forms.MuteAckForC.{MuteAckForC}
use Rattle.rdm_handles.specs.declared.forms.ResponseForC.{ResponseForC}
use Rattle.rdm_handles.specs.declared.status.TheConstants as status

-- the first status if it isn't DONE, or else the second
abbrev pub first_of : ℕ → ℕ → ℕ
first_of s t = if s == 0 then t else s

-- the status of a number that must be a UID; it may be broadcast
abbrev pub number_status : ℕ → ℕ
number_status u = if nat_lt u (2 ^ 48) then status.DONE else status.BAD_UID

-- the status of a buffer of this many bytes, into which any frame must fit
abbrev pub frame_status : ℕ → ℕ
frame_status room = if nat_lt room 257 then status.BUFFER_TOO_SMALL else status.DONE

-- the status of a buffer of this many bytes, into which any packet's data must fit
abbrev pub data_status : ℕ → ℕ
data_status room = if nat_lt room 231 then status.BUFFER_TOO_SMALL else status.DONE

-- the status of two bounds that must be in order
abbrev pub range_status : ℕ → ℕ → ℕ
range_status lo hi = if nat_le lo hi then status.DONE else status.BAD_RANGE

-- the status of bytes that are no response
abbrev pub packet_status : PacketFault → ℕ
packet_status faults.TooShort = status.TOO_SHORT
packet_status faults.WrongStart = status.WRONG_START
packet_status faults.WrongSubStart = status.WRONG_SUB_START
packet_status faults.LengthMismatch = status.LENGTH_MISMATCH
packet_status faults.ParamLengthMismatch = status.PARAM_LENGTH_MISMATCH
packet_status faults.Checksum = status.WRONG_CHECKSUM
packet_status faults.InvalidClass = status.INVALID_CLASS
packet_status faults.InvalidResponseType = status.INVALID_RESPONSE_TYPE

-- the status of a text that is no UID
abbrev pub uid_fault_status : UidFault → ℕ
uid_fault_status texts.Length = status.UID_LENGTH
uid_fault_status texts.Separator = status.UID_SEPARATOR
uid_fault_status texts.Digit = status.UID_DIGIT

-- the status of reading bytes as a response
abbrev pub read_status : Result Response PacketFault → ℕ → ℕ
read_status (Ok r) room = data_status room
read_status (Err fault) room = packet_status fault

-- the status of reading something that may be absent
abbrev pub found_status : {A : Type 0} → Option A → ℕ
found_status (Some x) = status.DONE
found_status None = status.NOTHING

-- a response without its data
abbrev pub form_of_response : Response → ResponseForC
form_of_response r = record {
  source = r.source;
  dest = r.dest;
  len = length r.param.items;
  ack = number_of_ack r.ack;
  response_class = number_of_class r.class;
  sub_device = r.sub_device;
  pid = r.pid;
  tn = r.tn;
  count = r.count;
}

-- the response type with this number, if there is one
abbrev pub ack_of : ℕ → AckType
ack_of n = if n == 0 then acks.Ack else (if n == 1 then acks.Timer else (if n == 2 then acks.Nack else acks.Overflow))

-- the response class with this number, if there is one
abbrev pub reply_class_of : ℕ → RespClass
reply_class_of n = if n == 0 then responses.Discovery else (if n == 1 then responses.Get else responses.Set)

-- the first fault of a response with these data
abbrev pub response_status : ResponseForC → List ℕ → ℕ
response_status r bytes =
    first_of (number_status r.source) (first_of (number_status r.dest)
    (if nat_lt 3 r.ack then status.BAD_RESPONSE_TYPE
    else (if nat_lt 2 r.response_class then status.BAD_CLASS
    else (if nat_lt 231 (length bytes) then status.DATA_TOO_LONG else status.DONE))))

-- the response with these numbers and data, if they have no fault
abbrev pub response_of : ResponseForC → List ℕ → Response
response_of r bytes = record {
  source = r.source;
  dest = r.dest;
  tn = r.tn;
  ack = ack_of r.ack;
  count = r.count;
  sub_device = r.sub_device;
  class = reply_class_of r.response_class;
  pid = r.pid;
  param = record { items = bytes };
}

-- the acknowledgement of a mute
abbrev pub form_of_ack : MuteAck → MuteAckForC
form_of_ack a = record { binding = number_or_0 a.binding; control = a.control; has_binding = is_some a.binding }

-- a device's binding UID, if there is one
abbrev pub binding_of : Bool → ℕ → Option ℕ
binding_of true u = Some u
binding_of false u = None

-- the first fault of a device: that of its own UID, or that of the binding UID, which is tested even if it is absent
abbrev pub device_status : DeviceForC → ℕ
device_status d = first_of (uid_status d.uid) (number_status d.binding)

-- the device with these numbers, if they have no fault
abbrev pub device_of : DeviceForC → Device
device_of d = record { uid = d.uid; control = d.control; binding = binding_of d.has_binding d.binding }

-- the number of a request's class
abbrev pub number_of_request : ReqClass → ℕ
number_of_request requests.Get = 0
number_of_request requests.Set = 1

-- a command without its data; fields that its kind doesn't have are 0
abbrev pub form_of_command : Command → ℕ → ℕ → CommandForC
form_of_command commands.Unmute source tn = record {
  source = source;
  target = 0;
  lo = 0;
  hi = 0;
  len = 0;
  kind = 0;
  command_class = 0;
  sub_device = 0;
  pid = 0;
  tn = tn;
}
form_of_command (commands.Branch range) source tn = record {
  source = source;
  target = 0;
  lo = range.lo;
  hi = range.hi;
  len = 0;
  kind = 1;
  command_class = 0;
  sub_device = 0;
  pid = 0;
  tn = tn;
}
form_of_command (commands.Mute u) source tn = record {
  source = source;
  target = u;
  lo = 0;
  hi = 0;
  len = 0;
  kind = 2;
  command_class = 0;
  sub_device = 0;
  pid = 0;
  tn = tn;
}
form_of_command (commands.Request r) source tn = record {
  source = source;
  target = r.target;
  lo = 0;
  hi = 0;
  len = length r.param.items;
  kind = 3;
  command_class = number_of_request r.class;
  sub_device = r.sub_device;
  pid = r.pid;
  tn = tn;
}

-- a request's parameter data; other commands have none
abbrev pub data_of_command : Command → List ℕ
data_of_command (commands.Request r) = r.param.items
data_of_command _ = []
