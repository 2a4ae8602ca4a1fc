-- The machine's state in an agent's fields.
use Rattle.std.specs.Prelude.{◌≡◌, ◌+◌, ℕ, List}
use Rattle.rdm_wire.specs.Span.{Span}
use Rattle.rdm_agent.specs.Machine as machine
use Rattle.rdm_agent.specs.Machine.Phase.{Unmuting as unmuting, MutingKnown as muting_known, Searching as searching}
use Rattle.rdm_agent.specs.Machine.Phase.{MutingRead as muting_read, Ended as ended}
use Rattle.rdm_agent.specs.Machine.Phase.{Sweeping as sweeping, MutingSwept as muting_swept, Checking as checking}
use Rattle.rdm_agent.specs.Machine.Phase.{MutingStray as muting_stray}
use Rattle.rdm_agent.specs.declared.phase.Phase.{Phase}
use Rattle.rdm_agent.specs.declared.phase.Phase.TheVariants.{Unmuting, MutingKnown, Searching, MutingRead, Ended}
use Rattle.rdm_agent.specs.declared.phase.Phase.TheVariants.{Sweeping, MutingSwept, Checking, MutingStray}
use Rattle.rdm_agent.specs.declared.run_state.RunState.{RunState}

-- the machine's phase, with the known UIDs that are left and the ranges below the top one
abbrev pub phase_of : Phase → List ℕ → List Span → machine.Phase
phase_of (Unmuting more) known below = unmuting more known
phase_of (MutingKnown uid tries spare) known below = muting_known uid tries spare known
phase_of (Searching top silences bads spent) known below = searching silences bads spent top below
phase_of (MutingRead uid tries spare bads top) known below = muting_read uid tries spare bads top below
phase_of (Sweeping sweep) known below = sweeping sweep
phase_of (MutingSwept uid tries spare sweep) known below = muting_swept uid tries spare sweep
phase_of (Checking uid silences sweep) known below = checking uid silences sweep
phase_of (MutingStray uid tries spare sweep) known below = muting_stray uid tries spare sweep
phase_of (Ended fault) known below = ended fault

-- the same for all that a run keeps
abbrev pub seen_phase : Phase → RunState → machine.Phase
seen_phase phase p = phase_of phase p.known p.below

-- the machine's state
abbrev pub state_of : ℕ → ℕ → Phase → RunState → machine.AgentState
state_of budget frames phase p = record {
  budget = budget;
  frames = frames;
  search = p.search;
  found = p.found;
  apart = p.apart;
  more = p.more;
  phase = seen_phase phase p;
}

-- the new phase and state of the run are those after the step, which counts one more exchange
abbrev pub Steps : (machine.AgentState → machine.AgentState) → Phase → RunState → Phase → RunState → Type 0
Steps step phase old result new =
    (budget frames : ℕ) → state_of budget (frames + 1) result new ≡ step (state_of budget frames phase old)
