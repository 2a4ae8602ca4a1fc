-- Responses, and what bytes decode to.
use Rattle.std.specs.Prelude.{◌≡◌, ℕ, ◌+◌, ◌-◌, ◌||◌, not, List, ◌++◌, length, take, Option, Some, None, Result, Ok}
use Rattle.std.specs.Prelude.{Err, slice_index, ◌==◌, nat_lt, if◌then◌else◌}
use Rattle.rdm_wire.specs.Bytes.{number_at, checksum}
use Rattle.rdm_wire.specs.Packet.{Fields, FieldsFit, packet, fields_at}
use Rattle.rdm_wire.specs.declared.response.Response.{Response}
use Rattle.rdm_wire.specs.declared.response.RespClass.{RespClass}
use Rattle.rdm_wire.specs.declared.response.RespClass.TheVariants as responses
use Rattle.rdm_wire.specs.declared.response.AckType.{AckType}
use Rattle.rdm_wire.specs.declared.response.AckType.TheVariants.{Ack as Acked, Timer, Nack, Overflow}
use Rattle.rdm_wire.specs.declared.response.PacketFault.{PacketFault}
use Rattle.rdm_wire.specs.declared.response.PacketFault.TheVariants.{TooShort, WrongStart, WrongSubStart}
use Rattle.rdm_wire.specs.declared.response.PacketFault.TheVariants.{LengthMismatch, ParamLengthMismatch, Checksum}
use Rattle.rdm_wire.specs.declared.response.PacketFault.TheVariants.{InvalidClass, InvalidResponseType}

-- the command class of a response (E1.20, command class)
abbrev pub code_of_class : RespClass → ℕ
code_of_class responses.Discovery = 0x11
code_of_class responses.Get = 0x21
code_of_class responses.Set = 0x31

-- the number of a response type (E1.20, response type)
abbrev pub code_of_ack : AckType → ℕ
code_of_ack Acked = 0
code_of_ack Timer = 1
code_of_ack Nack = 2
code_of_ack Overflow = 3

-- a response's fields
abbrev pub fields_of : Response → Fields
fields_of r = record {
  dest = r.dest;
  source = r.source;
  tn = r.tn;
  port_or_type = code_of_ack r.ack;
  count = r.count;
  sub_device = r.sub_device;
  class = code_of_class r.class;
  pid = r.pid;
  param = r.param.items;
}

-- b begins with the packet of the response r
abbrev pub Reads : Response → List ℕ → Type 0
Reads r b = FieldsFit (fields_of r) × (rest : List ℕ) × (b ≡ packet (fields_of r) ++ rest)

-- the class with this code, if it is a response's
abbrev pub class_of_code : ℕ → Option RespClass
class_of_code code =
    if code == 0x11 then Some responses.Discovery
    else (if code == 0x21 then Some responses.Get else (if code == 0x31 then Some responses.Set else None))

-- the response type with this number, if there is one (E1.20, response type)
abbrev pub ack_of_code : ℕ → Option AckType
ack_of_code code =
    if code == 0 then Some Acked
    else (if code == 1 then Some Timer
    else (if code == 2 then Some Nack else (if code == 3 then Some Overflow else None)))

-- the response with this class and type, and with the other fields at the packet's offsets
abbrev pub response_at : RespClass → AckType → List ℕ → Response
response_at class ack b = record {
  source = (fields_at b).source;
  dest = (fields_at b).dest;
  tn = (fields_at b).tn;
  ack = ack;
  count = (fields_at b).count;
  sub_device = (fields_at b).sub_device;
  class = class;
  pid = (fields_at b).pid;
  param = record { items = (fields_at b).param };
}

-- the response with this class and this type, or the fault if a response has no such class or no such type
abbrev pub response_of : List ℕ → Option RespClass → Option AckType → Result Response PacketFault
response_of b None ack = Err InvalidClass
response_of b (Some class) None = Err InvalidResponseType
response_of b (Some class) (Some ack) = Ok (response_at class ack b)

-- what bytes decode to: the first fault that applies, or else the response
abbrev pub decoded : List ℕ → Result Response PacketFault
decoded b =
    if nat_lt (length b) 26 then Err TooShort
    else (if not (slice_index b 0 == 0xcc) then Err WrongStart
    else (if not (slice_index b 1 == 0x01) then Err WrongSubStart
    else (if nat_lt (slice_index b 2) 24 || nat_lt (length b) (slice_index b 2 + 2) then Err LengthMismatch
    else (if not (slice_index b 23 == (slice_index b 2 - 24)) then Err ParamLengthMismatch
    else (if not (number_at (slice_index b 2) 2 b == checksum (take (slice_index b 2) b)) then Err Checksum
    else response_of b (class_of_code (slice_index b 20)) (ack_of_code (slice_index b 16)))))))
