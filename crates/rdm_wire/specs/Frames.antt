-- What frames ask of the devices, and what bytes answer to that.
use Rattle.std.specs.Prelude.{ℕ, List, [], ◌∷◌, Option, Some, None, bytes_eq, if◌then◌else◌}
use Rattle.rdm_wire.specs.Bytes.{number_at}
use Rattle.rdm_wire.specs.Packet.{Fields, fields_at}
use Rattle.rdm_wire.specs.CommandFrames.{branch_frame, mute_frame, unmute_frame}
use Rattle.rdm_wire.specs.Reading.{text_read, ack_read}
use Rattle.rdm_wire.specs.declared.mute_ack.MuteAck.{MuteAck}
use Rattle.rdm_wire.specs.Honest.{Asked, Heard, Seen}
use Rattle.rdm_wire.specs.Honest.Asked.{Unmute, Branch, Mute, Other}
use Rattle.rdm_wire.specs.Honest.Heard.{Failed, Silent, One, Acked, Noise}

-- the lower bound of a branch, from its data
abbrev pub lower_bound : Fields → ℕ
lower_bound f = number_at 0 6 f.param

-- the upper bound of a branch, from its data
abbrev pub upper_bound : Fields → ℕ
upper_bound f = number_at 6 6 f.param

-- what a frame with these fields asks: it is a discovery frame if it is exactly that frame, byte for byte. So a
-- branch whose bounds are crossed asks an empty range, and a mute may be of a broadcast UID
abbrev pub asked_with : List ℕ → Fields → Asked
asked_with frame f =
    if bytes_eq frame (unmute_frame f.source f.tn) then Unmute
    else (if bytes_eq frame (branch_frame (lower_bound f) (upper_bound f) f.source f.tn)
    then Branch (lower_bound f) (upper_bound f)
    else (if bytes_eq frame (mute_frame f.dest f.source f.tn) then Mute f.dest else Other))

-- what a frame asks
abbrev pub asked_in : List ℕ → Asked
asked_in frame = asked_with frame (fields_at frame)

-- the text of a UID if bytes spell one, else other bytes
abbrev pub one_or_noise : Option ℕ → Heard
one_or_noise None = Noise
one_or_noise (Some u) = One u

-- an acknowledgement if bytes are one, else other bytes
abbrev pub acked_or_noise : Option MuteAck → Heard
acked_or_noise None = Noise
acked_or_noise (Some ack) = Acked ack

-- how bytes are heard after a frame that asked this, with this source and transaction number
abbrev pub heard_bytes : ℕ → ℕ → Asked → List ℕ → Heard
heard_bytes s tn asked [] = Silent
heard_bytes s tn (Branch lo hi) (b ∷ bs) = one_or_noise (text_read (b ∷ bs))
heard_bytes s tn (Mute u) (b ∷ bs) = acked_or_noise (ack_read u s tn (b ∷ bs))
heard_bytes s tn Unmute (b ∷ bs) = Noise
heard_bytes s tn Other (b ∷ bs) = Noise

-- how an answer is heard: bytes, or None if the line failed
abbrev pub heard_in : List ℕ → Option (List ℕ) → Heard
heard_in frame None = Failed
heard_in frame (Some bytes) = heard_bytes (fields_at frame).source (fields_at frame).tn (asked_in frame) bytes

-- a frame and its answer, as an exchange
abbrev pub seen_exchange : List ℕ → Option (List ℕ) → Seen
seen_exchange frame answer = record { asked = asked_in frame; heard = heard_in frame answer }
