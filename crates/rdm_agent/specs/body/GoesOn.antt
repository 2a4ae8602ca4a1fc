-- How a run goes on after a reply: what changes, and what holds afterwards.
use Rattle.std.specs.Prelude.{◌≡◌, ℕ, List, []}
use Rattle.rdm_wire.specs.Honest.{Heard}
use Rattle.rdm_agent.specs.Machine as machine
use Rattle.rdm_agent.specs.declared.phase.Phase.{Phase}
use Rattle.rdm_agent.specs.declared.run_state.RunState.{RunState}
use Rattle.rdm_agent.specs.body.AgentFields.{phase_of, seen_phase, Steps}
use Rattle.rdm_agent.specs.body.Sound.{IsSound, IsFresh}

-- the phase and the run's state fit together, as those of each agent do
abbrev pub IsConsistent : Phase → RunState → Type 0
IsConsistent phase p = IsSound (seen_phase phase p) × IsFresh (seen_phase phase p) p.below

-- The machine made its step after this was heard.
pub record GoesOn (heard : Heard) (phase : Phase) (old : RunState) (result : Phase) (new : RunState) : Type 0 where
  pub state : Steps (λ a. machine.fed a heard) phase old result new
  pub consistent : IsConsistent result new

-- The machine is in this phase now. No device was found, and the run searches as before.
pub record MovesTo (next : machine.Phase) (old : RunState) (result : Phase) (new : RunState) : Type 0 where
  pub phase : seen_phase result new ≡ next
  pub search : new.search ≡ old.search
  pub found : new.found ≡ old.found
  pub apart : new.apart ≡ old.apart
  pub more : new.more ≡ old.more
  pub consistent : IsConsistent result new

-- The machine makes this step, whatever phase it was in. No range is open.
pub record Moves (step : machine.AgentState → machine.AgentState) (old : RunState) (result : Phase) (new : RunState)
    : Type 0 where
  pub state : (phase : Phase) → Steps step phase old result new
  pub consistent : IsConsistent result new
  pub fresh : new.below ≡ []

-- The machine is in this phase if no range is open, whatever known UIDs are left.
pub record Follows (next : machine.Phase) (result : Phase) : Type 0 where
  pub phase : (known : List ℕ) → phase_of result known [] ≡ next
  pub sound : (known : List ℕ) → IsSound (phase_of result known [])
