-- What bytes are read as, computed.
use Rattle.std.specs.Prelude.{ℕ, ◌-◌, Bool, ◌&&◌, ◌||◌, List, [], ◌∷◌, length, take, drop, Option, Some, None, Result}
use Rattle.std.specs.Prelude.{Ok, Err, ◌==◌, nat_lt, nat_le, if◌then◌else◌, option_and_then}
use Rattle.rdm_wire.specs.Bytes.{number_of, checksum}
use Rattle.rdm_wire.specs.BranchText.{ands}
use Rattle.rdm_wire.specs.Responses.{decoded, code_of_class, code_of_ack}
use Rattle.rdm_wire.specs.MuteAcks.{ack_data}
use Rattle.rdm_wire.specs.declared.response.Response.{Response}
use Rattle.rdm_wire.specs.declared.response.PacketFault.{PacketFault}
use Rattle.rdm_wire.specs.declared.mute_ack.MuteAck.{MuteAck}

-- what follows at most n bytes fe and one aa
abbrev pub after_preamble : ℕ → List ℕ → Option (List ℕ)
after_preamble n [] = None
after_preamble n (x ∷ xs) =
    if x == 0xaa then Some xs
    else (if (x == 0xfe) && nat_lt 0 n then after_preamble (n - 1) xs else None)

-- the UID that sixteen bytes spell, if their checksum is right
abbrev pub uid_of_coded : List ℕ → Option ℕ
uid_of_coded e =
    if nat_le 16 (length e) && (number_of (ands (drop 12 (take 16 e))) == checksum (take 12 e))
    then Some (number_of (ands (take 12 e)))
    else None

-- the UID whose text the bytes are, computed
abbrev pub text_read : List ℕ → Option ℕ
text_read b = option_and_then uid_of_coded (after_preamble 7 b)

-- whether the response acknowledges a mute of u that s sent with this transaction number
abbrev pub acks : ℕ → ℕ → ℕ → Response → Bool
acks u s tn r =
    (code_of_class r.class == 0x11) && (r.pid == 2) && (code_of_ack r.ack == 0)
    && (r.source == u) && (r.dest == s) && (r.tn == tn)
    && ((length r.param.items == 2) || (length r.param.items == 8))

-- the acknowledgement in a decoded response, if it acknowledges that mute
abbrev pub ack_in_response : ℕ → ℕ → ℕ → Result Response PacketFault → Option MuteAck
ack_in_response u s tn (Err fault) = None
ack_in_response u s tn (Ok r) = if acks u s tn r then Some (ack_data r.param.items) else None

-- the acknowledgement in these bytes, computed
abbrev pub ack_read : ℕ → ℕ → ℕ → List ℕ → Option MuteAck
ack_read u s tn b = ack_in_response u s tn (decoded b)
