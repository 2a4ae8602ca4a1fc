-- The frame of an operation.
use Rattle.std.specs.Prelude.{ℕ, List, []}
use Rattle.rdm_wire.specs.CommandFrames.{branch_frame, mute_frame, unmute_frame}
use Rattle.rdm_wire.specs.Commands.{FitsFrame}
use Rattle.rdm_wire.specs.declared.command.Command.TheVariants as commands
use Rattle.rdm_agent.specs.declared.op.Op.{Op}
use Rattle.rdm_agent.specs.declared.op.Op.TheVariants.{UnmuteAll, Mute, Branch, End}

-- the frame of an operation, from this source and with this transaction number; the end has none
abbrev pub op_frame : Op → ℕ → ℕ → List ℕ
op_frame UnmuteAll s tn = unmute_frame s tn
op_frame (Mute u) s tn = mute_frame u s tn
op_frame (Branch r) s tn = branch_frame r.lo r.hi s tn
op_frame End s tn = []

-- the source and the transaction number fit its frame, and so do its UIDs
abbrev pub IsSendable : Op → ℕ → ℕ → Type 0
IsSendable UnmuteAll s tn = FitsFrame commands.Unmute s tn
IsSendable (Mute u) s tn = FitsFrame (commands.Mute u) s tn
IsSendable (Branch r) s tn = FitsFrame (commands.Branch r) s tn
IsSendable End s tn = Unit {0}
