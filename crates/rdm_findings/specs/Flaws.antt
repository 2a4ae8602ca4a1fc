-- Why bytes that came after a mute don't acknowledge it, by the reader of responses; or why those that came after a
-- branch of one UID alone are the text of no UID.
use Rattle.std.specs.Prelude.{ℕ, ◌+◌, Bool, true, false, ◌||◌, not, List, ◌++◌, length, slice_get, Option, Some, None}
use Rattle.std.specs.Prelude.{Result, Ok, Err, codes, ◌==◌, nat_lt, if◌then◌else◌}
use Rattle.std.specs.List.{prefix_len}
use Rattle.arrayvec.specs.ArrayVec.{ArrayVec}
use Rattle.rdm_wire.specs.Commands.{command_read}
use Rattle.rdm_wire.specs.Honest.{Asked, Heard, Seen}
use Rattle.rdm_wire.specs.Honest.Asked.{Branch, Mute}
use Rattle.rdm_wire.specs.Honest.Heard.{Noise}
use Rattle.rdm_wire.specs.Responses.{decoded}
use Rattle.rdm_wire.specs.UidText.{uid_text}
use Rattle.rdm_wire.specs.declared.command.Command.{Command}
use Rattle.rdm_wire.specs.declared.command.Command.TheVariants as asks
use Rattle.rdm_wire.specs.declared.response.Response.{Response}
use Rattle.rdm_wire.specs.declared.response.RespClass.{RespClass}
use Rattle.rdm_wire.specs.declared.response.RespClass.TheVariants.{Discovery}
use Rattle.rdm_wire.specs.declared.response.AckType.{AckType}
use Rattle.rdm_wire.specs.declared.response.AckType.TheVariants as types
use Rattle.rdm_wire.specs.declared.response.PacketFault.{PacketFault}
use Rattle.rdm_wire.specs.declared.response.PacketFault.TheVariants as packets
use Rattle.rdm_join.specs.Exchange.{seen_event}
use Rattle.rdm_join.specs.declared.event.LineEvent.{LineEvent}
use Rattle.rdm_join.specs.declared.event.LineEvent.TheVariants as events
use Rattle.rdm_findings.specs.declared.flaw.Flaw.{Flaw}
use Rattle.rdm_findings.specs.declared.flaw.Flaw.TheVariants as flaws

-- whether a response is to a discovery command
abbrev pub is_discovery : RespClass → Bool
is_discovery Discovery = true
is_discovery _ = false

-- why a response of this type, with so many bytes of data, is no acknowledgement of a mute
abbrev pub flaw_of_type : AckType → ℕ → Option Flaw
flaw_of_type types.Ack n = if (n == 2) || (n == 8) then None else Some flaws.Length
flaw_of_type types.Nack n = Some flaws.Nack
flaw_of_type _ n = Some flaws.Type

-- why a response doesn't acknowledge a mute of u that s sent with this transaction number
abbrev pub flaw_of_response : (u s tn : ℕ) → Response → Option Flaw
flaw_of_response u s tn r =
    if not (is_discovery r.class) || not (r.pid == 2) then Some flaws.Command
    else (if not (r.source == u) then Some (flaws.Source r.source)
    else (if not (r.dest == s) then Some flaws.Controller
    else (if not (r.tn == tn) then Some flaws.Number else flaw_of_type r.ack (length r.param.items))))

-- why what bytes decode to doesn't
abbrev pub flaw_of_decoded : (u s tn : ℕ) → Result Response PacketFault → Option Flaw
flaw_of_decoded u s tn (Err fault) = Some (flaws.Packet fault)
flaw_of_decoded u s tn (Ok r) = flaw_of_response u s tn r

-- why bytes don't acknowledge a command, if it is a mute
abbrev pub flaw_after : Command → (s tn : ℕ) → List ℕ → Option Flaw
flaw_after (asks.Mute u) s tn bytes = if length bytes == 0 then None else flaw_of_decoded u s tn (decoded bytes)
flaw_after _ s tn bytes = None

-- why bytes don't acknowledge a mute of a broadcast UID, which is no command that is read: no device may answer it
abbrev pub flaw_of_broadcast : Asked → Heard → Option Flaw
flaw_of_broadcast (Mute u) Noise = Some flaws.Broadcast
flaw_of_broadcast _ _ = None

-- the same of the command that was read, or else of the exchange
abbrev pub flaw_read : Option (Command × ℕ × ℕ) → Seen → List ℕ → Option Flaw
flaw_read None e bytes = flaw_of_broadcast e.asked e.heard
flaw_read (Some (command, s, tn)) e bytes = flaw_after command s tn bytes

-- whether this byte follows a preamble
abbrev pub is_separator : Option ℕ → Bool
is_separator None = false
is_separator (Some byte) = byte == 0xaa

-- Why bytes that begin with n bytes fe are the text of no UID: no aa follows, or these are more than seven; or they are
-- too few for a UID and its checksum; or the checksum isn't that of the bytes before it
abbrev pub flaw_of_text : ℕ → List ℕ → Flaw
flaw_of_text n bytes =
    if nat_lt 7 n || not (is_separator (slice_get bytes n)) then flaws.NoText
    else (if nat_lt (length bytes) (n + 17) then flaws.Cut else flaws.Sum)

-- why bytes are the text of no UID, if they came after a branch of one UID alone
abbrev pub flaw_alone : Asked → List ℕ → Option Flaw
flaw_alone (Branch lo hi) bytes =
    if lo == hi then Some (flaw_of_text (prefix_len (λ byte. byte == 0xfe) bytes) bytes) else None
flaw_alone _ bytes = None

-- the same, if they are none
abbrev pub flaw_of_branch : Asked → Heard → List ℕ → Option Flaw
flaw_of_branch asked Noise bytes = flaw_alone asked bytes
flaw_of_branch asked _ bytes = None

-- the first flaw, or else the second
abbrev pub or_flaw : Option Flaw → Option Flaw → Option Flaw
or_flaw None second = second
or_flaw (Some flaw) second = Some flaw

-- why bytes are no right answer to the command that was read, or else to the exchange
abbrev pub flaw_of_reply : Option (Command × ℕ × ℕ) → Seen → List ℕ → Option Flaw
flaw_of_reply command e bytes = or_flaw (flaw_of_branch e.asked e.heard bytes) (flaw_read command e bytes)

-- why the line's answer to a frame is no right one, if the frame is a mute, or a branch of one UID alone, and bytes
-- came
abbrev pub flaw_of : ArrayVec ℕ → LineEvent → Option Flaw
flaw_of frame events.Failed = None
flaw_of frame (events.Reply bytes) =
    flaw_of_reply (command_read frame.items) (seen_event (frame, events.Reply bytes)) bytes.items

-- the first flaw, with one more exchange
abbrev pub first_flaw : Option Flaw → ArrayVec ℕ → LineEvent → Option Flaw
first_flaw None frame event = flaw_of frame event
first_flaw (Some flaw) frame event = Some flaw

-- whether bytes are too few for a response, or don't begin like one
abbrev pub is_formless : PacketFault → Bool
is_formless packets.TooShort = true
is_formless packets.WrongStart = true
is_formless _ = false

-- whether noise alone may have made bytes with this flaw
abbrev pub is_noisy : Flaw → Bool
is_noisy (flaws.Packet fault) = is_formless fault
is_noisy flaws.NoText = true
is_noisy _ = false

-- the same of bytes that may have none, since they are the text of a UID
abbrev pub may_be_noise : Option Flaw → Bool
may_be_noise None = false
may_be_noise (Some flaw) = is_noisy flaw

-- why bytes are no response
abbrev pub packet_text : PacketFault → List ℕ
packet_text packets.TooShort = codes "they are too short for a response"
packet_text packets.WrongStart = codes "they don't begin with the start code"
packet_text packets.WrongSubStart = codes "their sub start code is wrong"
packet_text packets.LengthMismatch = codes "their message length is wrong"
packet_text packets.ParamLengthMismatch = codes "their parameter data length is wrong"
packet_text packets.Checksum = codes "their checksum is wrong"
packet_text packets.InvalidClass = codes "their command class isn't that of a response"
packet_text packets.InvalidResponseType = codes "their response type is unknown"

-- a flaw
abbrev pub flaw_text : Flaw → List ℕ
flaw_text (flaws.Packet fault) = packet_text fault
flaw_text flaws.NoText = codes "they don't begin like a discovery reply"
flaw_text flaws.Cut = codes "they are too short for a discovery reply"
flaw_text flaws.Sum = codes "their checksum is wrong"
flaw_text flaws.Broadcast = codes "no device may answer a broadcast"
flaw_text flaws.Command = codes "they answer another command"
flaw_text (flaws.Source v) = codes "they are from " ++ uid_text v
flaw_text flaws.Controller = codes "they are for another controller"
flaw_text flaws.Number = codes "they have another transaction number"
flaw_text flaws.Nack = codes "they are a NACK"
flaw_text flaws.Type = codes "they are no ACK"
flaw_text flaws.Length = codes "they have neither 2 bytes of data nor 8"
