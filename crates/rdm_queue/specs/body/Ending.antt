-- What a queue ends next: a discovery by its run or by a close, or the oldest request.
use Rattle.std.specs.Prelude.{◌≡◌, ◌≢◌, ℕ, ◌-◌, true, false, List, [], drop, Option, Some, None, if◌then◌else◌}
use Rattle.std.specs.Prelude.{slice_get, nat_lt}
use Rattle.rdm_wire.specs.declared.device.Device.{Device}
use Rattle.rdm_agent.specs.Machine.{AgentState, fault_of}
use Rattle.rdm_agent.specs.Calls.{next_op, ended_by_abort}
use Rattle.rdm_agent.specs.declared.fault.AgentFault.{AgentFault}
use Rattle.rdm_agent.specs.declared.fault.AgentFault.TheVariants.{Aborted}
use Rattle.rdm_agent.specs.declared.op.Op.{Op}
use Rattle.rdm_agent.specs.declared.op.Op.TheVariants.{End}
use Rattle.rdm_log.specs.declared.entry.Entry.{Entry}
use Rattle.rdm_log.specs.declared.entry.Entry.TheVariants.{Answer}
use Rattle.rdm_log.specs.log.Entries.{AskedDiscovery}
use Rattle.rdm_log.specs.promises.Outcomes.{OutcomeValue}
use Rattle.rdm_log.specs.promises.Outcomes.OutcomeValue.{DiscoveryValue}
use Rattle.rdm_queue.specs.body.State.{QueueState, RunState, owes, flags_more, is_closing, due, IsFinished}

-- an agent that was stopped: one that has ended is unchanged
abbrev pub stopped_at : Op → AgentState → AgentState
stopped_at End a = a
stopped_at _ a = ended_by_abort a

-- the agent whose report is the answer: a close stops it first
abbrev pub agent_at_end : QueueState → AgentState
agent_at_end s = if is_closing s then stopped_at (next_op s.agent) s.agent else s.agent

-- the entry of an answer, and how its client sees it
abbrev pub answer_of : AskedDiscovery → ℕ → Option AgentFault → Entry
answer_of a run fault = Answer a.number run fault

abbrev pub answer_value : AskedDiscovery → ℕ → Option AgentFault → List Device → OutcomeValue
answer_value a run fault found = DiscoveryValue (Some a.number) (record { run = run; fault = fault; devices = found })

-- the oldest discovery, answered with this end
abbrev pub answers_oldest : QueueState → AskedDiscovery → ℕ → Option AgentFault → List Device → QueueState
answers_oldest s a run fault found =
    record s {
      asked = drop 1 s.asked;
      owed = owes a.client (answer_value a run fault found) s;
      flags = flags_more a.client false s;
    }

-- the run, with one discovery fewer to answer
abbrev pub one_less : RunState → Option RunState
one_less r = if nat_lt 1 r.left then Some (record { number = r.number; left = r.left - 1 }) else None

-- without fault the devices are those found by this run
abbrev pub devices_after : Option AgentFault → List Device → List Device → List Device
devices_after None found before = found
devices_after (Some fault) found before = before

abbrev pub devices_run_after : Option AgentFault → ℕ → ℕ → ℕ
devices_run_after None run before = run
devices_run_after (Some fault) run before = before

abbrev pub answers_by_run : QueueState → RunState → AskedDiscovery → QueueState
answers_by_run s r a =
    let agent = agent_at_end s in
    let fault = fault_of agent.phase in
    record s {
      asked = drop 1 s.asked;
      run = one_less r;
      agent = agent;
      devices = devices_after fault agent.found s.devices;
      devices_run = devices_run_after fault r.number s.devices_run;
      owed = owes a.client (answer_value a r.number fault agent.found) s;
      flags = flags_more a.client false s;
    }

-- the oldest discovery was answered by its run, with this entry
pub record AnswersByRun (old : QueueState) (entry : Entry) (new : QueueState) : Type 0 where
  pub run : RunState
  pub run_is : old.run ≡ Some run
  pub ended : next_op (agent_at_end old) ≡ End
  pub asked : AskedDiscovery
  pub oldest : slice_get old.asked 0 ≡ Some asked
  pub entry_is : entry ≡ answer_of asked run.number (fault_of (agent_at_end old).phase)
  pub new_is : new ≡ answers_by_run old run asked

-- the run hasn't ended, and isn't ended by a close
pub record HasRunUnderWay (s : QueueState) : Type 0 where
  pub goes_on : next_op (agent_at_end s) ≢ End

-- the oldest discovery, which no run serves, was answered at a close, with this entry
pub record AnswersUnserved (old : QueueState) (entry : Entry) (new : QueueState) : Type 0 where
  pub closing : is_closing old ≡ true
  pub asked : AskedDiscovery
  pub oldest : slice_get old.asked 0 ≡ Some asked
  pub entry_is : entry ≡ answer_of asked 0 (Some Aborted)
  pub new_is : new ≡ answers_oldest old asked 0 (Some Aborted) []

abbrev pub HasNoneUnserved : QueueState → Type 0
HasNoneUnserved s = is_closing s ≡ true → s.asked ≡ []

-- what was due next was ended, with this entry
pub record EndsRun (old : QueueState) (entry : Entry) (new : QueueState) : Type 0 where
  pub answers : AnswersByRun old entry new

pub record EndsRequest (old : QueueState) (entry : Entry) (new : QueueState) : Type 0 where
  pub no_run : old.run ≡ None
  pub finishes : IsFinished old entry new

pub record EndsUnserved (old : QueueState) (entry : Entry) (new : QueueState) : Type 0 where
  pub no_run : old.run ≡ None
  pub no_request : due old ≡ None
  pub answers : AnswersUnserved old entry new

pub data IsEnded (old : QueueState) (entry : Entry) (new : QueueState) : Type 0 where
  ByRun : EndsRun old entry new → IsEnded old entry new
  ByResult : EndsRequest old entry new → IsEnded old entry new
  ByClose : EndsUnserved old entry new → IsEnded old entry new

-- nothing is to be ended
abbrev pub NothingToEnd : Option RunState → QueueState → Type 0
NothingToEnd (Some r) s = HasRunUnderWay s
NothingToEnd None s = (due s ≡ None) × HasNoneUnserved s

abbrev pub HasNothingDue : QueueState → Type 0
HasNothingDue s = NothingToEnd s.run s
