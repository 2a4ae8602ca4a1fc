-- The part of a parameter that is sent, for the proofs.
use Rattle.std.specs.Prelude.{not, ◌≡◌, true, is_some, IfSome, ℕ, List, Option, Some, None, ◌==◌, option_and_then}
use Rattle.std.specs.List.{prefix_len}
use Rattle.arrayvec.specs.ArrayVec.{ArrayVec}
use Rattle.rdm_wire.specs.declared.response.AckType.{AckType}
use Rattle.rdm_line.specs.Parameters.{ParameterState, part_of, ack_of_part, parameter_of}
use Rattle.rdm_line.specs.declared.scene.SceneDevice.{SceneDevice}
use Rattle.rdm_line.specs.Scenes.{find_device}
use Rattle.rdm_wire.specs.Bytes.{two_bytes}
use Rattle.rdm_wire.specs.Packet.{packet}
use Rattle.rdm_wire.specs.Responses.{fields_of}
use Rattle.rdm_wire.specs.declared.request.Request.{Request}
use Rattle.rdm_wire.specs.declared.response.AckType.TheVariants.{Nack}
use Rattle.rdm_line.specs.Sim.{response_to}
use Rattle.rdm_wire.specs.declared.response.RespClass.TheVariants as responses

-- a part that is sent is that of the parameter, if there is one
abbrev pub AnswersPart : Option ParameterState → Option (ArrayVec ℕ × AckType) → Type 0
AnswersPart None answer = answer ≡ None
AnswersPart (Some p) answer =
    IfSome answer (λ a. (a.0.items ≡ part_of p) × (a.1 ≡ ack_of_part p)) × (is_some answer ≡ true)

-- how many parameters precede the first one with this PID
abbrev pub index_of : ℕ → List ParameterState → ℕ
index_of pid ps = prefix_len (λ p. not (p.pid == pid)) ps

-- the parameter with this PID of the device with this UID
abbrev pub parameter_at : ℕ → ℕ → List SceneDevice → Option ParameterState
parameter_at u pid devices = option_and_then (λ (d : SceneDevice). parameter_of pid d.params) (find_device devices u)

-- the response to a GET that is answered with this part. A parameter that the device doesn't have is refused, reason 0
abbrev pub SendsPart : Request → ℕ → ℕ → Option (ArrayVec ℕ × AckType) → List ℕ → Type 0
SendsPart r source tn None reply =
    reply ≡ packet (fields_of (response_to r source tn responses.Get Nack (two_bytes 0)))
SendsPart r source tn (Some sent) reply =
    reply ≡ packet (fields_of (response_to r source tn responses.Get sent.1 sent.0.items))
