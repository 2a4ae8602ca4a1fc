-- A garbled reply to a mute that has none to spare counts as silence.
use Rattle.rdm_agent.proofs.Common.{◌≡◌, ℕ, ◌∙◌, Silent, Noise, fed, state_of}
use Rattle.rdm_agent.specs.body.GoesOn.{GoesOn}
use Rattle.rdm_agent.specs.declared.phase.Phase.{Phase}
use Rattle.rdm_agent.specs.declared.run_state.RunState.{RunState}

pub as_silence : (phase : Phase) (old : RunState) (result : Phase) (new : RunState)
    → ((budget frames : ℕ) → fed (state_of budget frames phase old) Silent
    ≡ fed (state_of budget frames phase old) Noise)
    → GoesOn Silent phase old result new → GoesOn Noise phase old result new
as_silence phase old result new same g = record {
  state = λ budget frames. g.state budget frames ∙ same budget frames;
  consistent = g.consistent;
}
