-- An agent's calls, and the states of agents that runs lead to.
use Rattle.std.specs.Prelude.{◌≡◌, ◌≢◌, ℕ, Bool, true, false, List, Option, Some, None, Result, Ok, Err, MatchBool}
use Rattle.rdm_wire.specs.Uid.{IsDeviceSet}
use Rattle.rdm_wire.specs.declared.device.Device.{Device}
use Rattle.rdm_wire.specs.Honest.{Asked, Seen}
use Rattle.rdm_wire.specs.Honest.Asked.{Unmute, Branch, Mute, Other}
use Rattle.rdm_agent.specs.Machine.{AgentState, Runs, start_by, next_of}
use Rattle.rdm_agent.specs.Machine.Phase.{Ended}
use Rattle.rdm_agent.specs.declared.kind.Kind.{Kind}
use Rattle.rdm_agent.specs.declared.search.Search.{Search}
use Rattle.rdm_agent.specs.declared.search.Search.TheVariants.{Steady}
use Rattle.rdm_agent.specs.declared.fault.AgentFault.{AgentFault}
use Rattle.rdm_agent.specs.declared.fault.AgentFault.TheVariants.{Aborted}
use Rattle.rdm_agent.specs.declared.op.Op.{Op}
use Rattle.rdm_agent.specs.declared.op.Op.TheVariants as ops
use Rattle.rdm_agent.specs.declared.op.OpReply.{OpReply}
use Rattle.rdm_agent.specs.declared.op.OpReply.TheVariants as came

-- the operation that asks this; `End` if nothing is asked
abbrev pub op_of : Option Asked → Op
op_of None = ops.End
op_of (Some Unmute) = ops.UnmuteAll
op_of (Some (Branch lo hi)) = ops.Branch (record { lo = lo; hi = hi })
op_of (Some (Mute u)) = ops.Mute u
op_of (Some Other) = ops.End

-- the operation that an agent asks next; `End` if it has ended
abbrev pub next_op : AgentState → Op
next_op a = op_of (next_of a)

-- whether a reply may answer an operation
abbrev pub fits : OpReply → Op → Bool
fits came.Done ops.UnmuteAll = true
fits (came.Mute ack) (ops.Mute u) = true
fits came.Garbled (ops.Mute u) = true
fits (came.Branch reply) (ops.Branch r) = true
fits came.Failed ops.UnmuteAll = true
fits came.Failed (ops.Mute u) = true
fits came.Failed (ops.Branch r) = true
fits _ _ = false

-- the agent after an abort
abbrev pub ended_by_abort : AgentState → AgentState
ended_by_abort a = record {
  budget = a.budget;
  frames = a.frames;
  search = a.search;
  found = a.found;
  apart = a.apart;
  more = a.more;
  phase = Ended (Some Aborted);
}

-- what a run returns: the set, or its fault with the set
abbrev pub run_result : Option AgentFault → List Device → Result (List Device) (AgentFault × List Device)
run_result None found = Ok found
run_result (Some fault) found = Err (fault, found)

-- the agent was started with these values, has made these exchanges, and was then aborted or not
pub record HasRunBy (search : Search) (kind : Kind) (known : List ℕ) (budget : ℕ) (aborted : Bool) (x : List Seen)
    (a : AgentState) : Type 0 where
  pub devices : IsDeviceSet known
  pub before : AgentState
  pub runs : Runs (start_by search kind known budget) x before
  pub is : MatchBool aborted ((next_op before ≢ ops.End) × (a ≡ ended_by_abort before)) (a ≡ before)

-- the same with the steady search
abbrev pub HasRun : Kind → List ℕ → ℕ → Bool → List Seen → AgentState → Type 0
HasRun kind known budget aborted x a = HasRunBy Steady kind known budget aborted x a

-- how a run was started, what it has exchanged, and whether it was then aborted
pub record RunSoFar : Type 0 where
  pub search : Search
  pub kind : Kind
  pub known : List ℕ
  pub budget : ℕ
  pub aborted : Bool
  pub exchanges : List Seen

-- P holds for each run after which the agent may be in this state
abbrev pub AfterEach : AgentState → (RunSoFar → Type 0) → Type 0
AfterEach a P =
    (run : RunSoFar) → HasRunBy run.search run.kind run.known run.budget run.aborted run.exchanges a → P run
