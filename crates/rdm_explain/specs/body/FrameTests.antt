-- The tests of a frame's bytes.
use Rattle.std.specs.Prelude.{ℕ, Bool, List, Option, Some, None, bytes_eq}
use Rattle.rdm_wire.specs.Packet.{fields_at}
use Rattle.rdm_wire.specs.CommandFrames.{branch_frame}
use Rattle.rdm_wire.specs.Frames.{lower_bound, upper_bound, heard_bytes}
use Rattle.rdm_wire.specs.Honest.{Asked, Heard}
use Rattle.rdm_wire.specs.Honest.Heard.{Failed}

-- whether the bytes are the branch of the bounds that stand in them, from this source with this transaction number
abbrev pub is_branch_frame : List ℕ → ℕ → ℕ → Bool
is_branch_frame b s tn = bytes_eq b (branch_frame (lower_bound (fields_at b)) (upper_bound (fields_at b)) s tn)

-- how an answer is heard, bytes or a failure, after a frame that asked this
abbrev pub heard_event : ℕ → ℕ → Asked → Option (List ℕ) → Heard
heard_event s tn asked None = Failed
heard_event s tn asked (Some bytes) = heard_bytes s tn asked bytes
