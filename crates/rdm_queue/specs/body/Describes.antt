-- Which logs describe a queue's state: those that say what it holds.
use Rattle.std.specs.Prelude.{◌≡◌, ◌≢◌, ℕ, ◌+◌, ◌≤◌, Bool, true, false, List, [], ◌∷◌, ◌++◌, length, filter_map, map}
use Rattle.std.specs.Prelude.{Option, Some, None, slice_get}
use Rattle.arrayvec.specs.ArrayVec.{ArrayVec}
use Rattle.rdm_wire.specs.Frames.{asked_in}
use Rattle.rdm_join.specs.declared.verdict.Sent.{Sent}
use Rattle.rdm_join.specs.Verdict.{sent_by}
use Rattle.rdm_agent.specs.Calls.{next_op, HasRunBy}
use Rattle.rdm_agent.specs.Run.{asked_by}
use Rattle.rdm_agent.specs.Machine.{AgentState, fault_of}
use Rattle.rdm_agent.specs.OpFrames.{op_frame}
use Rattle.rdm_agent.specs.declared.op.Op.TheVariants.{End}
use Rattle.rdm_log.specs.declared.entry.Owner.TheVariants as owners
use Rattle.rdm_log.specs.declared.entry.Opening.{Opening}
use Rattle.rdm_log.specs.declared.entry.Entry.{Entry}
use Rattle.rdm_queue.specs.declared.pending.Awaited.{Awaited}
use Rattle.rdm_queue.specs.declared.pending.Awaited.TheVariants as awaiting
use Rattle.rdm_log.specs.log.Entries.{Sending, Answered, sends, finishes, answers, collectors, verdicts}
use Rattle.rdm_log.specs.log.History.{awaited, is_paused, is_closed, places, next_request, next_ask, next_tn}
use Rattle.rdm_log.specs.log.History.{unfinished, unanswered, was_sent}
use Rattle.rdm_log.specs.log.Runs.{entries_before_run, last_run, next_run, open_run, is_answered, asked_before}
use Rattle.rdm_log.specs.log.Runs.{run_kind, known_at_run, run_exchanges, known_devices, devices_run}
use Rattle.rdm_log.specs.log.Clients.{uncollected}
use Rattle.rdm_wire.specs.Lists.{EachAfter}
use Rattle.rdm_log.specs.log.Legal.{MayFollow, Legal}
use Rattle.rdm_log.specs.promises.Outcomes.{outcome_of}
use Rattle.rdm_log.specs.log.LogState.{LogState}
use Rattle.rdm_log.specs.promises.Blocks.{AllResults, is_result}
use Rattle.rdm_log.specs.promises.InBound.{FaultNeedsClose, AnswersInBound}
use Rattle.rdm_log.specs.log.Broken.{broken_keys, may_be_incomplete}
use Rattle.rdm_queue.specs.body.State.{QueueState, RunState, owed_to, flags_to, IsStanding}
use Rattle.rdm_queue.specs.body.State.{uncollected as uncollected_by}

-- the number of the oldest unfinished request, or of the next one if there is none
abbrev pub oldest_number : Opening → List Entry → ℕ
oldest_number o h = o.next_request + length (finishes h)

-- the last frame is this one, and its reply is awaited
pub record IsLast (h : List Entry) (last : Sending) : Type 0 where
  pub waits : awaited h ≡ true
  pub earlier : List Sending
  pub sends_are : sends h ≡ earlier ++ last ∷ []

-- the last frame is of this request, of which this was sent
pub record AwaitsRequest (o : Opening) (h : List Entry) (sent : Sent) : Type 0 where
  pub frame : ArrayVec ℕ
  pub last : IsLast h (record { owner = owners.Request (oldest_number o h); frame = frame })
  pub same : sent_by frame.items ≡ sent

-- the last frame is of the open run: the agent's next operation, with this transaction number
pub record AwaitsRun (o : Opening) (h : List Entry) (s : QueueState) (tn : ℕ) : Type 0 where
  pub run : RunState
  pub run_is : s.run ≡ Some run
  pub frame : ArrayVec ℕ
  pub last : IsLast h (record { owner = owners.Run run.number; frame = frame })
  pub goes_on : next_op s.agent ≢ End
  pub asks : asked_in frame.items ≡ asked_by (next_op s.agent)
  pub same : frame.items ≡ op_frame (next_op s.agent) o.source tn

abbrev pub IsPending : Opening → List Entry → QueueState → Option Awaited → Type 0
IsPending o h s None = awaited h ≡ false
IsPending o h s (Some (awaiting.Request sent)) = AwaitsRequest o h sent
IsPending o h s (Some (awaiting.Run tn)) = AwaitsRun o h s tn

-- A run has begun, and not all discoveries that it serves are answered. The agent has made its exchanges, and was
-- stopped only by a close.
pub record IsRunning (o : Opening) (h : List Entry) (s : QueueState) (r : RunState) : Type 0 where
  pub last : last_run h ≡ Some r.number
  pub aborted : Bool
  pub has_run : HasRunBy o.search (run_kind r.number h) (known_at_run o r.number h) o.budget aborted
      (run_exchanges r.number h) s.agent
  pub stopped : aborted ≡ true → (is_closed o h ≡ true) × (awaited h ≡ false)
  -- it serves the first of the unanswered discoveries
  pub left : asked_before (last_run h) h ≡ length (answers h) + r.left
  pub some : 1 ≤ r.left
  -- all discoveries that earlier runs serve are answered
  pub earlier : asked_before (last_run (entries_before_run r.number h)) (entries_before_run r.number h)
      ≤ length (answers h)
  -- it answers only once it has ended, and all alike
  pub ended : is_answered r.number h ≡ true → next_op s.agent ≡ End
  pub alike : (i : ℕ) (b : Answered) → slice_get (answers h) i ≡ Some b → b.run ≡ r.number
      → b.fault ≡ fault_of s.agent.phase
  -- no request is between two parts
  pub no_request : s.under_way ≡ false

-- a run has made its exchanges with this agent, which a close may have stopped
pub record HasLeft (o : Opening) (h : List Entry) (r : ℕ) (agent : AgentState) : Type 0 where
  pub aborted : Bool
  pub has_run : HasRunBy o.search (run_kind r h) (known_at_run o r h) o.budget aborted (run_exchanges r h) agent

-- the last run has left this agent; before the first run of all it has set no UID apart
abbrev pub LastLeft : Opening → List Entry → AgentState → Option ℕ → Type 0
LastLeft o h agent None = o.next_run ≡ 1 → (agent.apart ≡ []) × (agent.more ≡ false)
LastLeft o h agent (Some r) = HasLeft o h r agent

-- each run that has begun has given all its answers
pub record IsNotRunning (o : Opening) (h : List Entry) (agent : AgentState) : Type 0 where
  pub none_open : open_run h ≡ None
  pub none_left : asked_before (last_run h) h ≤ length (answers h)
  pub left : LastLeft o h agent (last_run h)

abbrev pub RunIs : Opening → List Entry → QueueState → Option RunState → Type 0
RunIs o h s None = IsNotRunning o h s.agent
RunIs o h s (Some r) = IsRunning o h s r

-- what a queue holds is what the log says
pub record Describes (o : Opening) (h : List Entry) (s : QueueState) : Type 0 where
  pub source_is : s.source ≡ o.source
  pub greatest_is : s.greatest ≡ o.greatest
  pub budget_is : s.budget ≡ o.budget
  pub search_is : s.search ≡ o.search
  pub places_are : s.places ≡ places o h
  pub paused_is : s.paused ≡ is_paused o h
  pub closed_is : s.closed ≡ is_closed o h
  pub next_request_is : s.next_request ≡ next_request o h
  pub next_tn_is : s.next_tn ≡ next_tn o h
  pub waiting_are : s.waiting ≡ unfinished h
  pub awaited_is : IsPending o h s s.awaited
  pub under_way_is : s.under_way ≡ was_sent (oldest_number o h) h
  pub standing : IsStanding (verdicts (oldest_number o h) h) s.decided s.joiner
  pub next_ask_is : s.next_ask ≡ next_ask o h
  pub next_run_is : s.next_run ≡ next_run o h
  pub asked_are : s.asked ≡ unanswered h
  pub run_is : RunIs o h s s.run
  pub devices_are : s.devices ≡ known_devices o h
  pub devices_run_is : s.devices_run ≡ devices_run o h
  pub owed_for_each : length s.owed ≡ length (places o h)
  pub outcomes_are : (c : ℕ) → owed_to c s ≡ filter_map (outcome_of h) (uncollected o c h)
  pub broken_is : s.broken ≡ broken_keys o h
  pub flags_for_each : length s.flags ≡ length (places o h)
  pub flags_are : (c : ℕ) → flags_to c s ≡ map (may_be_incomplete o h) (uncollected o c h)
  pub all_outcomes : uncollected_by s + length (collectors h) ≡ length (finishes h) + length (answers h)
  -- runs are numbered from 1
  pub first_run : 1 ≤ o.next_run

-- the run that has begun, if any, hasn't ended
abbrev pub RunGoesOn : Option RunState → AgentState → Type 0
RunGoesOn None agent = Unit {0}
RunGoesOn (Some r) agent = next_op agent ≢ End

-- the log is legal and describes the queue's state, and a run that has begun hasn't ended
pub record StandsAfter (o : Opening) (h : List Entry) (s : QueueState) : Type 0 where
  pub legal : Legal o h
  pub stands : Describes o h s
  pub goes_on : RunGoesOn s.run s.agent

-- the log describes the queue's state within a block of entries: Finishes and Answers may still be due
pub record StandsAmid (o : Opening) (h : List Entry) (s : QueueState) : Type 0 where
  pub each : EachAfter (MayFollow o) h
  pub stands : Describes o h s

-- this holds for each log that describes the queue's state within a block
abbrev pub ForEachBlock : QueueState → (Opening → List Entry → Type 0) → Type 0
ForEachBlock s P = (o : Opening) (h : List Entry) → StandsAmid o h s → P o h

-- For each log that describes old and for which this holds, that log with one more entry describes new within a block.
abbrev pub AddsAmid : QueueState → (Opening → List Entry → Type 0) → Entry → QueueState → Type 0
AddsAmid old May e new =
    (o : Opening) (h : List Entry) → StandsAfter o h old → May o h → StandsAmid o (h ++ e ∷ []) new

-- What was due next was ended with this entry, a Finish or an Answer in bound. This holds for each log that describes
-- old within a block.
pub record FinishesNext (old : QueueState) (e : Entry) (new : QueueState) : Type 0 where
  pub is : is_result e ≡ true
  pub each : (k : LogState) → StandsAmid k.opening k.entries old
      → FaultNeedsClose k e × StandsAmid k.opening (k.entries ++ e ∷ []) new

-- Finishes and Answers, until nothing is due; the Answers are in bound
pub record FinishesAll (k : LogState) (new : QueueState) : Type 0 where
  pub results : List Entry
  pub each : AllResults results
  pub in_bound : AnswersInBound k results
  pub after : StandsAfter k.opening (k.entries ++ results) new

-- all that was due was ended, for each log that describes old within a block
abbrev pub FinishesEach : QueueState → QueueState → Type 0
FinishesEach old new = (k : LogState) → StandsAmid k.opening k.entries old → FinishesAll k new
