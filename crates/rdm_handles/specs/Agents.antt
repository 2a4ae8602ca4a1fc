-- How a discovery run without a queue begins for C, and what it asks.
use Rattle.std.specs.Prelude.{ℕ, List, [], ◌∷◌, length, Option, ◌==◌, nat_lt, if◌then◌else◌}
use Rattle.rdm_wire.specs.Uid.{has, with_uid}
use Rattle.rdm_wire.specs.Frames.{heard_in}
use Rattle.rdm_agent.specs.Calls.{next_op}
use Rattle.rdm_agent.specs.Machine.{AgentState, fed}
use Rattle.rdm_agent.specs.OpFrames.{op_frame}
use Rattle.rdm_agent.specs.declared.op.Op.{Op}
use Rattle.rdm_agent.specs.declared.op.Op.TheVariants as ops
use Rattle.rdm_handles.specs.Forms.{uid_status}
use Rattle.rdm_handles.specs.Packets.{first_of}
use Rattle.rdm_handles.specs.declared.discovery.Discovery.{Discovery}
use Rattle.rdm_handles.specs.declared.forms.StartForC.{StartForC}
use Rattle.rdm_handles.specs.declared.status.TheConstants as status

-- the first fault of a start
abbrev pub start_status : StartForC → ℕ
start_status s =
    first_of (uid_status s.source) (if nat_lt 1 s.kind then status.BAD_KIND
    else (if nat_lt 1 s.search then status.BAD_SEARCH else status.DONE))

-- the status of a set that another device must fit into
abbrev pub room_status : List ℕ → ℕ → ℕ
room_status set u =
    if has set u then status.DONE
    else (if length set == 1024 then status.TOO_MANY_DEVICES else status.DONE)

-- the fault of adding a UID to a set: first that of the UID, then that the set is full
abbrev pub added_status : List ℕ → ℕ → ℕ
added_status set u = first_of (uid_status u) (room_status set u)

-- the first fault of adding these UIDs to a set, in order
abbrev pub known_status : List ℕ → List ℕ → ℕ
known_status set [] = status.DONE
known_status set (u ∷ us) = first_of (added_status set u) (known_status (with_uid u set) us)

-- the set with these UIDs added
abbrev pub known_set : List ℕ → List ℕ → List ℕ
known_set set [] = set
known_set set (u ∷ us) = known_set (with_uid u set) us

-- the status of writing an operation: done, or nothing at the end
abbrev pub operation_status : Op → ℕ
operation_status ops.End = status.NOTHING
operation_status _ = status.DONE

-- the number of an operation; 3, the end, is never written
abbrev pub operation_of : Op → ℕ
operation_of ops.UnmuteAll = 0
operation_of (ops.Mute u) = 1
operation_of (ops.Branch range) = 2
operation_of ops.End = 3

-- the run after the reply to its frame; None: the line failed
unfoldable pub heard_of : Discovery → Option (List ℕ) → AgentState
heard_of d answer = fed d.agent (heard_in (op_frame (next_op d.agent) d.source d.tn) answer)
