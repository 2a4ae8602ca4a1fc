-- A parameter of a simulated device.
use Rattle.std.specs.Prelude.{ℕ, ◌+◌, Bool, List, [], ◌∷◌, length, Option, Some, None}
use Rattle.std.specs.Prelude.{◌==◌, nat_lt, slice_index_or, if◌then◌else◌}
use Rattle.arrayvec.specs.ArrayVec.{ArrayVec}
use Rattle.rdm_wire.specs.declared.response.AckType.{AckType}
use Rattle.rdm_wire.specs.declared.response.AckType.TheVariants.{Ack, Overflow}

-- a parameter: the parts of its data, and the index of the part that answers the next GET
pub record ParameterState : Type 0 where
  pub pid : ℕ
  pub parts : List (ArrayVec ℕ)
  pub next : ℕ

-- the first parameter with this PID
abbrev pub parameter_of : ℕ → List ParameterState → Option ParameterState
parameter_of pid [] = None
parameter_of pid (p ∷ ps) = if p.pid == pid then Some p else parameter_of pid ps

-- the part that answers the next GET
abbrev pub part_of : ParameterState → List ℕ
part_of p = (slice_index_or p.parts p.next (record { items = [] })).items

-- whether a part comes after the next one
abbrev pub has_more : ParameterState → Bool
has_more p = nat_lt (p.next + 1) (length p.parts)

-- the response type of the next part: ACK_OVERFLOW unless it is the last (E1.20, response type)
abbrev pub ack_of_part : ParameterState → AckType
ack_of_part p = if has_more p then Overflow else Ack

-- the parameter after a part was sent: the next part follows, and after the last one the first again
abbrev pub part_sent : ParameterState → ParameterState
part_sent p = record p { next = if has_more p then p.next + 1 else 0 }

-- the parameters after the next part of the first one with this PID was sent
abbrev pub sent_of : ℕ → List ParameterState → List ParameterState
sent_of pid [] = []
sent_of pid (p ∷ ps) = if p.pid == pid then part_sent p ∷ ps else p ∷ sent_of pid ps
