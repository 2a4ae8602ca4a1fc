-- A discovery run on a line.
use Rattle.std.specs.Prelude.{◌≡◌, ◌≢◌, ℕ, ◌+◌, ◌%◌, false, List, [], ◌∷◌, length, map, Result}
use Rattle.rdm_wire.specs.declared.device.Device.{Device}
use Rattle.rdm_join.specs.Exchange.{seen_event}
use Rattle.rdm_agent.specs.Machine.{AgentState, start_by, fed, fault_of}
use Rattle.rdm_agent.specs.Calls.{next_op, run_result, HasRunBy}
use Rattle.rdm_agent.specs.OpFrames.{op_frame}
use Rattle.rdm_agent.specs.Run.{asked_by}
use Rattle.rdm_agent.specs.declared.kind.Kind.{Kind}
use Rattle.rdm_agent.specs.declared.search.Search.{Search}
use Rattle.rdm_agent.specs.declared.fault.AgentFault.{AgentFault}
use Rattle.rdm_agent.specs.declared.op.Op.TheVariants.{End}
use Rattle.rdm_line.specs.Events.{Exchange}

-- The agent a goes on. It sends what it asks in a frame from this source with this transaction number. The line makes
-- its step with that frame, and a takes the reply.
pub record GoesOn (L : Type 0) (step : L → Exchange → L → Type 0) (source tn : ℕ) (a : AgentState) (old : L)
    (b : AgentState) (new : L) : Type 0 where
  pub exchange : Exchange
  pub goes_on : next_op a ≢ End
  pub frame : exchange.0.items ≡ op_frame (next_op a) source tn
  pub asked : (seen_event exchange).asked ≡ asked_by (next_op a)
  pub steps : step old exchange new
  pub hears : b ≡ fed a (seen_event exchange).heard

-- the agent a makes these exchanges with the line, in order, and becomes b; its frames are from this source and are
-- numbered from n on, modulo 256
abbrev pub Drives : (L : Type 0) → (L → Exchange → L → Type 0) → ℕ → ℕ → AgentState → L → List Exchange → AgentState → L
    → Type 0
Drives L step source n a old [] b new = (b ≡ a) × (new ≡ old)
Drives L step source n a old (x ∷ xs) b new =
    (after : AgentState) × (line : L) × (e : GoesOn L step source (n % 256) a old after line) × (e.exchange ≡ x)
    × Drives L step source (n + 1) after line xs b new

-- an agent that was started with this search, kind, known set and budget made n exchanges with the line, with frames
-- numbered from 0. Then the agent and the line were these
pub record HasDriven (L : Type 0) (step : L → Exchange → L → Type 0) (source : ℕ) (search : Search) (kind : Kind)
    (known : List ℕ) (budget : ℕ) (old : L) (n : ℕ) (a : AgentState) (line : L) : Type 0 where
  pub exchanges : List Exchange
  pub many : length exchanges ≡ n
  pub drives : Drives L step source 0 (start_by search kind known budget) old exchanges a line
  -- its exchanges are those of a run
  pub run : HasRunBy search kind known budget false (map seen_event exchanges) a

-- a run on the line reports this, after this many frames
pub record IsDiscovery (L : Type 0) (step : L → Exchange → L → Type 0) (source : ℕ) (search : Search) (kind : Kind)
    (known : List ℕ) (budget : ℕ) (old new : L) (found : Result (List Device) (AgentFault × List Device)) (frames : ℕ)
    : Type 0 where
  pub last : AgentState
  pub driven : HasDriven L step source search kind known budget old frames last new
  pub ended : next_op last ≡ End
  pub report : found ≡ run_result (fault_of last.phase) last.found
