-- Acknowledgements of a mute.
use Rattle.std.specs.Prelude.{◌≡◌, ◌⊎◌, ℕ, List, length, Some, None, ◌==◌, if◌then◌else◌}
use Rattle.rdm_wire.specs.Bytes.{number_at}
use Rattle.rdm_wire.specs.Responses.{Reads}
use Rattle.rdm_wire.specs.declared.response.Response.{Response}
use Rattle.rdm_wire.specs.declared.response.RespClass.TheVariants as responses
use Rattle.rdm_wire.specs.declared.response.AckType.TheVariants.{Ack as Acked}
use Rattle.rdm_wire.specs.declared.mute_ack.MuteAck.{MuteAck}

-- b acknowledges the mute of u that s sent with this transaction number: a DISC_MUTE response of type ACK from u to s,
-- with 2 or 8 bytes of data (E1.20, discovery mute message)
pub record MuteAcked (u s n : ℕ) (b : List ℕ) : Type 0 where
  pub response : Response
  pub reads : Reads response b
  pub class : response.class ≡ responses.Discovery
  pub pid : response.pid ≡ 2
  pub ack : response.ack ≡ Acked
  pub source : response.source ≡ u
  pub dest : response.dest ≡ s
  pub tn : response.tn ≡ n
  pub size : (length response.param.items ≡ 2) ⊎ (length response.param.items ≡ 8)

-- what the data of an acknowledgement encode: the control field, and with 8 bytes the binding UID (E1.20, discovery
-- mute message)
abbrev pub ack_data : List ℕ → MuteAck
ack_data param = record {
  control = number_at 0 2 param;
  binding = if length param == 8 then Some (number_at 2 6 param) else None;
}

-- b acknowledges a mute of u that s sent with this transaction number, and its data encode ack
abbrev pub MuteAckedWith : ℕ → ℕ → ℕ → List ℕ → MuteAck → Type 0
MuteAckedWith u s n b ack = (a : MuteAcked u s n b) × (ack ≡ ack_data a.response.param.items)
