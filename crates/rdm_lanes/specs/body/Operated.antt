-- How a session's log agrees with the operator's calls.
use Rattle.std.specs.Prelude.{◌≡◌, ℕ, false, List, [], ◌∷◌, ◌++◌}
use Rattle.rdm_log.specs.log.LogState.{LogState}
use Rattle.rdm_lanes.specs.declared.call.OperatorCall.{OperatorCall}
use Rattle.rdm_lanes.specs.Lines.{IsBetweenTurns}
use Rattle.rdm_lanes.specs.Operators.{switches, effective}
use Rattle.rdm_lanes.specs.body.Quiet.{NoExchange}
use Rattle.rdm_lanes.specs.body.Serving.{IsOnlyTold}

-- The session was neither paused nor closed at first. Its pauses, resumes and closes are those of these calls that have
-- an effect.
pub record IsOperated (k : LogState) (calls : List OperatorCall) : Type 0 where
  pub not_paused : k.opening.paused ≡ false
  pub not_closed : k.opening.closed ≡ false
  pub switched : switches k.entries ≡ effective calls

-- a call of the operator was made
pub record IsOperatorStep (call : OperatorCall) (old new : LogState) : Type 0 where
  pub served : IsBetweenTurns old → IsBetweenTurns new
  pub line : NoExchange old new
  pub wait : (c : ℕ) → IsOnlyTold c old new
  pub operated : (calls : List OperatorCall) → IsOperated old calls → IsOperated new (calls ++ call ∷ [])
