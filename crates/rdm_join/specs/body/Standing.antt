-- The state of a joiner after a list of verdicts.
use Rattle.std.specs.Prelude.{◌≡◌, ◌↔◌, ◌+◌, Bool, true, false, ◌&&◌, not, List, [], ◌∷◌, ◌++◌, length}
use Rattle.std.specs.Prelude.{Option, Some, None}
use Rattle.std.specs.Prelude.{◌==◌, nat_lt, if◌then◌else◌}
use Rattle.rdm_wire.specs.Responses.{code_of_ack}
use Rattle.rdm_join.specs.declared.verdict.Judged.{Judged}
use Rattle.rdm_join.specs.declared.joiner.ReplyHead.{ReplyHead}
use Rattle.rdm_join.specs.declared.joiner.Stage.{Stage}
use Rattle.rdm_join.specs.declared.joiner.Stage.TheVariants.{Waiting, Joining, Ended}
use Rattle.rdm_join.specs.declared.joiner.Step.{Step}
use Rattle.rdm_join.specs.declared.joiner.Step.TheVariants.{More}
use Rattle.rdm_join.specs.Result.{Joined, result_of, joined_data, head_of, differs}
use Rattle.rdm_join.specs.JoinerStanding.{JoinerStanding, IsOpen, step_of}
use Rattle.rdm_join.specs.declared.verdict.Judged.TheVariants as verdicts

-- the stage of a request that a list of verdicts leaves open: they are all parts
abbrev pub stage_of_parts : List Judged → Stage
stage_of_parts [] = Waiting
stage_of_parts (verdicts.Part r ∷ vs) = Joining (head_of r) (length vs + 1)
stage_of_parts (verdicts.Whole r ∷ vs) = Waiting
stage_of_parts (verdicts.Ended s ∷ vs) = Waiting

-- the state of a joiner: the result of the verdicts, or if they have none, their parts
abbrev pub standing_at : Option Joined → List Judged → JoinerStanding
standing_at (Some j) vs = record { stage = Ended j.head; data_ = j.data_ }
standing_at None vs = record { stage = stage_of_parts vs; data_ = joined_data vs }

-- s is the state of a joiner that was given these verdicts, in order
abbrev pub StandsAt : List Judged → JoinerStanding → Type 0
StandsAt vs s = s ≡ standing_at (result_of vs) vs

-- new is the state of a joiner that was in the state old and was given the verdict v, and result is what it returns
pub record JoinerMoves (old : JoinerStanding) (v : Judged) (result : Step) (new : JoinerStanding) : Type 0 where
  pub more : (result ≡ More) ↔ IsOpen new
  pub stands : (vs : List Judged) → StandsAt vs old → StandsAt (vs ++ v ∷ []) new
  pub step : (vs : List Judged) → StandsAt vs old → result ≡ step_of (result_of (vs ++ v ∷ []))

-- the state of a joiner whose request has ended without data
abbrev pub ended_standing : JoinerStanding
ended_standing = record { stage = Ended None; data_ = [] }

-- the stage after a part with this head, if it joins with those before it
abbrev pub stage_with_part : Stage → ReplyHead → Option Stage
stage_with_part Waiting head = Some (Joining head 1)
stage_with_part (Joining first parts) head =
    if not (differs first head) && nat_lt (parts + 1) 512 then Some (Joining first (parts + 1)) else None
stage_with_part (Ended last) head = None

-- whether a whole reply with this head joins with the parts before it
abbrev pub allows_whole : Stage → ReplyHead → Bool
allows_whole Waiting head = true
allows_whole (Joining first parts) head = not (differs first head) && (code_of_ack head.ack == 0)
allows_whole (Ended last) head = false
