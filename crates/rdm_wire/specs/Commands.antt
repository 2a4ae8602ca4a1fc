-- The commands that the controller sends.
use Rattle.std.specs.Prelude.{◌≡◌, ℕ, true, ◌<◌, ◌≤◌, ◌^◌, ◌&&◌, ◌==◌, nat_le, false, List, length, Option, Some, None}
use Rattle.std.specs.Prelude.{bytes_eq, if◌then◌else◌}
use Rattle.rdm_wire.specs.Bytes.{number_at}
use Rattle.rdm_wire.specs.Uid.{is_broadcast}
use Rattle.rdm_wire.specs.Packet.{Fields, FieldsFit, packet, fields_at}
use Rattle.rdm_wire.specs.CommandFrames.{request_fields, unmute_fields, branch_fields, mute_fields}
use Rattle.rdm_wire.specs.declared.request.Request.{Request}
use Rattle.rdm_wire.specs.declared.request.ReqClass.{ReqClass}
use Rattle.rdm_wire.specs.declared.request.ReqClass.TheVariants.{Get, Set}
use Rattle.rdm_wire.specs.Honest.{Asked}
use Rattle.rdm_wire.specs.Honest.Asked.{Unmute as Unmuted, Branch as Branched, Mute as Muted, Other}
use Rattle.rdm_wire.specs.declared.command.Command.{Command}
use Rattle.rdm_wire.specs.declared.command.Command.TheVariants as asks

-- the fields of a command's packet, from this source with this transaction number
abbrev pub command_fields : Command → ℕ → ℕ → Fields
command_fields asks.Unmute s tn = unmute_fields s tn
command_fields (asks.Branch range) s tn = branch_fields range.lo range.hi s tn
command_fields (asks.Mute u) s tn = mute_fields u s tn
command_fields (asks.Request r) s tn = request_fields r s tn

-- the frame of a command, from this source with this transaction number
abbrev pub command_frame : Command → ℕ → ℕ → List ℕ
command_frame command s tn = packet (command_fields command s tn)

-- a branch's bounds are UIDs
abbrev pub HasUids : Command → Type 0
HasUids (asks.Branch range) = (range.lo < 2 ^ 48) × (range.hi < 2 ^ 48)
HasUids other = Unit {0}

-- each value of the command is in the range of its field
pub record FitsFrame (command : Command) (s tn : ℕ) : Type 0 where
  pub fits : FieldsFit (command_fields command s tn)
  pub bounds : HasUids command

-- what its encoder also requires: a branch's bounds aren't crossed, and a mute is to a device
abbrev pub IsInOrder : Command → Type 0
IsInOrder (asks.Branch range) = range.lo ≤ range.hi
IsInOrder (asks.Mute u) = is_broadcast u ≡ false
IsInOrder other = Unit {0}

-- the bytes are what the command's encoder writes for this source and this transaction number
pub record Writes (command : Command) (s tn : ℕ) (b : List ℕ) : Type 0 where
  pub frame : FitsFrame command s tn
  pub in_order : IsInOrder command
  pub bytes : b ≡ command_frame command s tn

-- the request that these fields encode
abbrev pub request_in : Fields → ReqClass → Request
request_in f class = record {
  target = f.dest;
  sub_device = f.sub_device;
  class = class;
  pid = f.pid;
  param = record { items = f.param };
}

-- the branch that these data encode: two bounds that aren't crossed
abbrev pub branch_in : List ℕ → Option Command
branch_in param =
    if (length param == 12) && nat_le (number_at 0 6 param) (number_at 6 6 param)
    then Some (asks.Branch (record { lo = number_at 0 6 param; hi = number_at 6 6 param })) else None

-- the discovery command that the PID, the target and the data encode (E1.20, discovery commands)
abbrev pub discovery_in : Fields → Option Command
discovery_in f =
    if f.pid == 3 then Some asks.Unmute
    else (if f.pid == 2 then (if is_broadcast f.dest then None else Some (asks.Mute f.dest))
    else (if f.pid == 1 then branch_in f.param else None))

-- the command that the class, the PID and the data encode
abbrev pub command_in : Fields → Option Command
command_in f =
    if f.class == 0x10 then discovery_in f
    else (if f.class == 0x20 then Some (asks.Request (request_in f Get))
    else (if f.class == 0x30 then Some (asks.Request (request_in f Set)) else None))

-- the command with its source and transaction number, if its frame is exactly these bytes
abbrev pub written_so : List ℕ → ℕ → ℕ → Option Command → Option (Command × ℕ × ℕ)
written_so b s tn None = None
written_so b s tn (Some command) =
    if bytes_eq b (command_frame command s tn) then Some (command, s, tn) else None

-- the command whose frame the bytes are, computed: the one that the fields encode, if its frame is these bytes
abbrev pub command_read : List ℕ → Option (Command × ℕ × ℕ)
command_read b = written_so b (fields_at b).source (fields_at b).tn (command_in (fields_at b))

-- what a command asks of the devices
abbrev pub asked_by_command : Command → Asked
asked_by_command asks.Unmute = Unmuted
asked_by_command (asks.Branch range) = Branched range.lo range.hi
asked_by_command (asks.Mute u) = Muted u
asked_by_command (asks.Request r) = Other

-- nothing is asked of any device: a branch whose bounds are crossed, a mute of a broadcast UID, or no discovery command
abbrev pub AsksNobody : Asked → Type 0
AsksNobody Unmuted = ⊥
AsksNobody (Branched lo hi) = hi < lo
AsksNobody (Muted u) = is_broadcast u ≡ true
AsksNobody Other = Unit {0}

-- what a frame asks if it is read as this command, or as no command
abbrev pub AsksSo : Option (Command × ℕ × ℕ) → Asked → Type 0
AsksSo None asked = AsksNobody asked
AsksSo (Some sent) asked = asked ≡ asked_by_command sent.0
