-- A run that makes a step of its machine.
use Rattle.rdm_agent.proofs.Common.{◌≡◌, ℕ, ◌∙◌, Heard, AgentState, fed, state_of}
use Rattle.rdm_agent.specs.declared.phase.Phase.{Phase}
use Rattle.rdm_agent.specs.declared.run_state.RunState.{RunState}
use Rattle.rdm_agent.specs.body.GoesOn.{GoesOn, Moves}

-- the step is that of what was heard in this phase
pub moved-goes_on : (heard : Heard) (phase : Phase) (step : AgentState → AgentState) (old : RunState) (result : Phase)
    (new : RunState) → Moves step old result new
    → ((budget frames : ℕ) → step (state_of budget frames phase old) ≡ fed (state_of budget frames phase old) heard)
    → GoesOn heard phase old result new
moved-goes_on heard phase step old result new m same = record {
  state = λ budget frames. m.state phase budget frames ∙ same budget frames;
  consistent = m.consistent;
}

-- the step is another one's
pub moved-same : (step other : AgentState → AgentState) (old : RunState) (result : Phase) (new : RunState)
    → Moves step old result new
    → ((budget frames : ℕ) (phase : Phase) → step (state_of budget frames phase old)
    ≡ other (state_of budget frames phase old))
    → Moves other old result new
moved-same step other old result new m same = record {
  state = λ phase budget frames. m.state phase budget frames ∙ same budget frames phase;
  consistent = m.consistent;
  fresh = m.fresh;
}
