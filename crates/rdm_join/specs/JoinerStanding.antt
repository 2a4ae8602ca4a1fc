-- What contracts see of a joiner.
use Rattle.std.specs.Prelude.{ℕ, List, Option, Some, None}
use Rattle.rdm_join.specs.declared.joiner.ReplyHead.{ReplyHead}
use Rattle.rdm_join.specs.declared.joiner.Stage.{Stage}
use Rattle.rdm_join.specs.declared.joiner.Stage.TheVariants.{Waiting, Joining, Ended}
use Rattle.rdm_join.specs.declared.joiner.Step.{Step}
use Rattle.rdm_join.specs.declared.joiner.Step.TheVariants.{More, Done}
use Rattle.rdm_join.specs.Result.{Joined}

-- how far the request is, and the data of its parts, or of the whole answer
pub record JoinerStanding : Type 0 where
  pub stage : Stage
  pub data_ : List ℕ

-- the request at this stage hasn't ended
abbrev pub IsOpenStage : Stage → Type 0
IsOpenStage Waiting = Unit {0}
IsOpenStage (Joining first parts) = Unit {0}
IsOpenStage (Ended head) = ⊥

-- the request of this joiner hasn't ended
abbrev pub IsOpen : JoinerStanding → Type 0
IsOpen s = IsOpenStage s.stage

-- what the result so far means for the caller: to send the request again, or that it has ended
abbrev pub step_of : Option Joined → Step
step_of None = More
step_of (Some j) = Done j.status

-- the head of a completed request at this stage
abbrev pub head_of_stage : Stage → Option ReplyHead
head_of_stage Waiting = None
head_of_stage (Joining first parts) = None
head_of_stage (Ended head) = head

-- the head of this joiner's request, if it is completed
abbrev pub head_of_standing : JoinerStanding → Option ReplyHead
head_of_standing s = head_of_stage s.stage
