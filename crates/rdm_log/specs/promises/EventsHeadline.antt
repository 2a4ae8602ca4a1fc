-- What clients are promised, for a list of events and its answers.
use Rattle.std.specs.Prelude.{◌≡◌, ◌↔◌, ℕ, ◌+◌, ◌<◌, Bool, true, false, List, [], ◌∷◌, ◌++◌, length, take, drop, zip}
use Rattle.std.specs.Prelude.{filter_map, Option, Some, None, Result, Ok, Err, ◌==◌, if◌then◌else◌, slice_get}
use Rattle.std.specs.List.{Contains}
use Rattle.rdm_wire.specs.Uid.{has, IsDevice}
use Rattle.rdm_wire.specs.Devices.{uids_of}
use Rattle.rdm_wire.specs.Honest.{HonestTo, HonestTrace}
use Rattle.rdm_wire.specs.HonestOver.{HonestOver}
use Rattle.rdm_wire.specs.Noisy.{NoisyTo, NoisyTrace}
use Rattle.rdm_wire.specs.declared.request.Request.{Request}
use Rattle.rdm_join.specs.declared.event.LineEvent.{LineEvent}
use Rattle.rdm_join.specs.declared.status.Status.{Status}
use Rattle.rdm_join.specs.Result.{Joined}
use Rattle.rdm_agent.specs.Statements.{IsInEach, IsInOne}
use Rattle.rdm_agent.specs.declared.kind.Kind.{Kind}
use Rattle.rdm_agent.specs.declared.fault.AgentFault.{AgentFault}
use Rattle.rdm_log.specs.declared.entry.ClientId.{ClientId}
use Rattle.rdm_log.specs.declared.entry.Opening.{Opening}
use Rattle.rdm_log.specs.declared.entry.Entry.{Entry}
use Rattle.rdm_log.specs.declared.entry.Entry.TheVariants.{Accept, Ask, Finish}
use Rattle.rdm_log.specs.declared.entry.Entry.TheVariants as entries
use Rattle.rdm_log.specs.declared.fault.WorkFault.{WorkFault}
use Rattle.rdm_log.specs.declared.fault.WorkFault.TheVariants.{Full}
use Rattle.rdm_wire.specs.declared.fault.NoMemory.{NoMemory}
use Rattle.rdm_log.specs.declared.outcome.AskCompletion.{AskCompletion}
use Rattle.rdm_log.specs.declared.outcome.Outcome.{Outcome}
use Rattle.rdm_log.specs.declared.outcome.Outcome.TheVariants as outcomes
use Rattle.rdm_log.specs.declared.outcome.BoxedOutcome.{BoxedOutcome}
use Rattle.rdm_log.specs.declared.outcome.OutcomeKind.TheVariants as kinds
use Rattle.rdm_log.specs.declared.event.Event.{Event}
use Rattle.rdm_log.specs.declared.event.Event.TheVariants as events
use Rattle.rdm_log.specs.declared.event.Answer.{Answer}
use Rattle.rdm_log.specs.declared.event.Answer.TheVariants as answers
use Rattle.rdm_log.specs.declared.work.Work.{Work}
use Rattle.rdm_log.specs.declared.work.Work.TheVariants.{Submit, Discover}
use Rattle.rdm_log.specs.log.Entries.{result}
use Rattle.rdm_log.specs.log.History.{is_closed}
use Rattle.rdm_log.specs.log.Runs.{run_exchanges, answer_devices}
use Rattle.rdm_log.specs.log.Clients.{client_of_request, client_of_discovery, collected}
use Rattle.rdm_log.specs.promises.Outcomes.{OutcomeValue, Discovered, completion_value, discovered, outcome_value}
use Rattle.rdm_log.specs.promises.Outcomes.{outcome_of, completion_of, unboxed, oldest_kind}
use Rattle.rdm_log.specs.log.LogState.{LogState, grown, is_full_log}
use Rattle.rdm_log.specs.promises.Blocks.{work_refused}
use Rattle.rdm_log.specs.promises.Explains.{IsAnswered, Explains}
use Rattle.rdm_log.specs.promises.InBound.{IsCalmRun, IsNoisyRun}
use Rattle.rdm_log.specs.promises.Headline.{IsFull, SameQueue, result_count}
use Rattle.rdm_log.specs.promises.Discoveries.{HasMostDiscoveries, answer_count}
use Rattle.rdm_log.specs.promises.Promised.{LegalPromised}

-- event i had this answer: the log was `before`, and then `after`
pub record AnsweredAt (old : LogState) (es : List Event) (rs : List Answer) (new : LogState) (i : ℕ) (event : Event)
    (answer : Answer) : Type 0 where
  pub before : LogState
  pub after : LogState
  pub earlier : Explains old (take i es) (take i rs) before
  pub here : IsAnswered before event answer after
  pub later : Explains after (drop (i + 1) es) (drop (i + 1) rs) new

-- the event of a client's work
abbrev pub brings : ClientId → Work → Event
brings c (Submit request) = events.Submit c request
brings c (Discover kind) = events.Discover c kind

-- its answer: the number, or the fault, with which a refused request is returned
abbrev pub answer_to : Work → Result ℕ WorkFault → Answer
answer_to (Submit request) (Ok n) = answers.Submit (Ok n)
answer_to (Submit request) (Err fault) = answers.Submit (Err (fault, request))
answer_to (Discover kind) result = answers.Discover result

-- the client has as much of this work as it may
abbrev pub HasMost : Opening → List Entry → ℕ → Work → Type 0
HasMost o h c (Submit request) = IsFull o h c
HasMost o h c (Discover kind) = HasMostDiscoveries o h c

-- if the log isn't full, work is answered Full exactly when the client has as much as it may; that changes only the log
pub record FullExactly (old : LogState) (es : List Event) (rs : List Answer) (new : LogState) (i : ℕ) (c : ClientId)
    (work : Work) (answer : Answer) : Type 0 where
  pub at : AnsweredAt old es rs new i (brings c work) answer
  pub exactly : is_full_log at.before ≡ false
      → (answer ≡ answer_to work (Err Full)) ↔ HasMost at.before.opening at.before.entries c.0 work
  pub refused : answer ≡ answer_to work (Err Full) → at.after ≡ grown at.before (work_refused c work Full ∷ [])
  pub unchanged : answer ≡ answer_to work (Err Full) → SameQueue new.opening at.before.entries at.after.entries

-- a collect was answered with NoMemory: the client's oldest uncollected outcome is a discovery's, and nothing has
-- changed
pub record RefusesDiscovery (old : LogState) (es : List Event) (rs : List Answer) (new : LogState) (i : ℕ)
    (c : ClientId) (fault : NoMemory) : Type 0 where
  pub at : AnsweredAt old es rs new i (events.Collect c) (answers.Collect (Err fault))
  pub discovery : oldest_kind at.before.opening at.before.entries c.0 ≡ Some kinds.Discovery
  pub unchanged : at.after ≡ at.before

-- an answer that starts something: a client joined, a request or a discovery was accepted, or a frame was returned
abbrev pub starts : Answer → Bool
starts (answers.Join (Ok c)) = true
starts (answers.Submit (Ok n)) = true
starts (answers.Discover (Ok n)) = true
starts (answers.Take (Ok (Some frame))) = true
starts _ = false

-- the outcome of a finished request of the client: the joined answer of the request's own exchanges
pub record IsOwnResult (o : Opening) (h : List Entry) (c : ℕ) (number : Option ℕ) (done : Joined) : Type 0 where
  pub request : ℕ
  pub number_is : number ≡ Some request
  pub status : Status
  pub len : ℕ
  pub finished : Contains h (Finish request status len)
  pub client : client_of_request o h request ≡ Some c
  pub told : done ≡ completion_of status (result request h)

-- the outcome of an answered discovery of the client: the devices that its run reports
pub record IsOwnReport (o : Opening) (h : List Entry) (c : ℕ) (number : Option ℕ) (done : Discovered) : Type 0 where
  pub discovery : ℕ
  pub number_is : number ≡ Some discovery
  pub answered : Contains h (entries.Answer discovery done.run done.fault)
  pub client : client_of_discovery o h discovery ≡ Some c
  pub told : done.devices ≡ answer_devices done.run h

-- the outcome belongs to a request or a discovery of client c, and says what the log says about it
abbrev pub IsOwnOutcome : Opening → List Entry → ℕ → Outcome → Type 0
IsOwnOutcome o h c (outcomes.Request number done) = IsOwnResult o h c number (completion_value done)
IsOwnOutcome o h c (outcomes.Discovery number done) = IsOwnReport o h c number (discovered done)

-- the devices of a discovery are those that the line showed during its run
pub record ReportsTheLine (h : List Entry) (done : Discovered) : Type 0 where
  -- on an honest line whose devices stay: without fault exactly these, whatever bytes colliding replies make
  pub exactly : (present : List ℕ) → done.fault ≡ None → HonestTrace present (run_exchanges done.run h)
      → uids_of done.devices ≡ present
  -- and even with a fault, no others
  pub no_phantom : (present : List ℕ) (u : ℕ) → HonestTrace present (run_exchanges done.run h)
      → has (uids_of done.devices) u ≡ true → has present u ≡ true
  -- on a line that is honest towards one device: without fault that device, whatever others do
  pub each : (u : ℕ) → done.fault ≡ None → IsDevice u → HonestTo u (run_exchanges done.run h)
      → has (uids_of done.devices) u ≡ true
  -- on an honest line whose devices come and leave: without fault each that was always present
  pub staying : (sets : List (List ℕ)) (u : ℕ) → done.fault ≡ None → HonestOver sets (run_exchanges done.run h)
      → IsInEach u sets → has (uids_of done.devices) u ≡ true
  -- and none that was never present
  pub no_stranger : (sets : List (List ℕ)) (u : ℕ) → HonestOver sets (run_exchanges done.run h)
      → has (uids_of done.devices) u ≡ true → IsInOne u sets

-- the devices of a discovery are those that a noisy line showed during its run
pub record ReportsANoisyLine (h : List Entry) (done : Discovered) : Type 0 where
  -- on a noisy line whose devices stay: without fault exactly these
  pub exactly : (present : List ℕ) → done.fault ≡ None → NoisyTrace present (run_exchanges done.run h)
      → uids_of done.devices ≡ present
  -- and even with a fault, no others
  pub no_phantom : (present : List ℕ) (u : ℕ) → NoisyTrace present (run_exchanges done.run h)
      → has (uids_of done.devices) u ≡ true → has present u ≡ true
  -- without fault each device that follows the rules of a noisy line, whatever others do
  pub each : (u : ℕ) → done.fault ≡ None → IsDevice u → NoisyTo u (run_exchanges done.run h)
      → has (uids_of done.devices) u ≡ true

-- the outcome that an event returned to the client, if it did
abbrev pub outcome_given : ℕ → Event → Answer → Option OutcomeValue
outcome_given c (events.Collect d) (answers.Collect (Ok (Some outcome))) =
    if c == d.0 then Some (outcome_value (unboxed outcome)) else None
outcome_given c _ _ = None

-- all outcomes that events returned to the client, in order
abbrev pub given_to : ℕ → List Event → List Answer → List OutcomeValue
given_to c es rs = filter_map (λ p. outcome_given c p.0 p.1) (zip es rs)

-- the outcomes, as this log has them, of the Finishes and Answers that the client has collected in h
abbrev pub collected_outcomes : Opening → ℕ → List Entry → List Entry → List OutcomeValue
collected_outcomes o c h log = filter_map (outcome_of log) (collected o c h)

-- All that is promised about each list of events that a session answers, and about its log before and after.
pub record EventsPromised (old : LogState) (es : List Event) (rs : List Answer) (new : LogState) : Type 0 where
  -- each event has one answer
  pub all_answered : length rs ≡ length es
  -- the log grew by a block of entries, and nothing else in it has changed
  pub only_grows : (block : List Entry) × (new ≡ grown old block)
  -- the log keeps all that clients are promised of a legal log
  pub log : LegalPromised new.opening new.entries
  -- if a submit was answered with a number, the log has an Accept of its client and request under that number
  pub accepted : (i : ℕ) (c : ClientId) (n : ℕ) (request : Request) → slice_get es i ≡ Some (events.Submit c request)
      → slice_get rs i ≡ Some (answers.Submit (Ok n)) → Contains new.entries (Accept c n request)
  -- if a submit was answered with a number, and a Close and later a Deliver are among the events, the request has
  -- exactly one result
  pub finished : (i j m : ℕ) (c : ClientId) (n : ℕ) (request : Request) (event : LineEvent)
      → slice_get es i ≡ Some (events.Submit c request) → slice_get rs i ≡ Some (answers.Submit (Ok n)) → j < m
      → slice_get es j ≡ Some events.Close → slice_get es m ≡ Some (events.Deliver event)
      → result_count n new.entries ≡ 1
  -- if a discover was answered with a number, the log has an Ask of its client and kind under that number
  pub asked : (i : ℕ) (c : ClientId) (n : ℕ) (kind : Kind) → slice_get es i ≡ Some (events.Discover c kind)
      → slice_get rs i ≡ Some (answers.Discover (Ok n)) → Contains new.entries (Ask c n kind)
  -- if a discover was answered with a number, and a Close and later a Deliver are among the events, the discovery
  -- has exactly one answer
  pub answered : (i j m : ℕ) (c : ClientId) (n : ℕ) (kind : Kind) (event : LineEvent)
      → slice_get es i ≡ Some (events.Discover c kind) → slice_get rs i ≡ Some (answers.Discover (Ok n)) → j < m
      → slice_get es j ≡ Some events.Close → slice_get es m ≡ Some (events.Deliver event)
      → answer_count n new.entries ≡ 1
  -- of two submits that were answered with a number, the later has the greater one
  pub numbers_rise : (i j n m : ℕ) → i < j → slice_get rs i ≡ Some (answers.Submit (Ok n))
      → slice_get rs j ≡ Some (answers.Submit (Ok m)) → n < m
  -- of two discovers that were answered with a number, the later has the greater one
  pub asks_rise : (i j n m : ℕ) → i < j → slice_get rs i ≡ Some (answers.Discover (Ok n))
      → slice_get rs j ≡ Some (answers.Discover (Ok m)) → n < m
  -- if a Close is among the events, the queue is closed at the end
  pub closed : (i : ℕ) → slice_get es i ≡ Some events.Close → is_closed new.opening new.entries ≡ true
  -- no event after a Close has an answer that starts something
  pub nothing_after : (i j : ℕ) (answer : Answer) → i < j → slice_get es i ≡ Some events.Close
      → slice_get rs j ≡ Some answer → starts answer ≡ false
  -- if the queue was closed before the events, no event has an answer that starts something
  pub nothing_closed : is_closed old.opening old.entries ≡ true → (j : ℕ) (answer : Answer)
      → slice_get rs j ≡ Some answer → starts answer ≡ false
  -- if the log isn't full, work is answered Full exactly when its client has as much as it may; that changes only the
  -- log
  pub full : (i : ℕ) (c : ClientId) (work : Work) (answer : Answer) → slice_get es i ≡ Some (brings c work)
      → slice_get rs i ≡ Some answer → FullExactly old es rs new i c work answer
  -- what a Collect returned is an outcome of that client's request or discovery, and says what the log says about it
  pub collected : (i : ℕ) (c : ClientId) (outcome : BoxedOutcome) → slice_get es i ≡ Some (events.Collect c)
      → slice_get rs i ≡ Some (answers.Collect (Ok (Some outcome)))
      → IsOwnOutcome new.opening new.entries c.0 (unboxed outcome)
  -- the devices that a Collect returned for a discovery are those that the line showed during its run
  pub reported : (i : ℕ) (outcome : BoxedOutcome) (number : Option ℕ) (done : AskCompletion)
      → slice_get rs i ≡ Some (answers.Collect (Ok (Some outcome))) → unboxed outcome ≡ outcomes.Discovery number done
      → ReportsTheLine new.entries (discovered done)
  -- a Collect is answered with NoMemory only if its client's oldest outcome is a discovery's; that changes nothing
  pub no_memory : (i : ℕ) (c : ClientId) (fault : NoMemory) → slice_get es i ≡ Some (events.Collect c)
      → slice_get rs i ≡ Some (answers.Collect (Err fault)) → RefusesDiscovery old es rs new i c fault
  -- the outcomes that a client has collected at the end are those that it had before, and then those that these events
  -- returned to it, each once and in order
  pub collected_once : (c : ℕ)
      → collected_outcomes new.opening c new.entries new.entries
      ≡ collected_outcomes new.opening c old.entries new.entries ++ given_to c es rs
  -- an Answer that these events added, for a run on a calm line with a sufficient budget, has a fault only if the queue
  -- was closed before it
  pub in_bound : (front back : List Entry) (n r : ℕ) (fault : AgentFault) (present : List ℕ)
      → new.entries ≡ old.entries ++ front ++ entries.Answer n r (Some fault) ∷ back
      → IsCalmRun new r present → is_closed new.opening (old.entries ++ front) ≡ true
  -- so does one for a quick run on a noisy line, whose budget suffices for its disturbed exchanges
  pub in_bound_in_noise : (front back : List Entry) (n r : ℕ) (fault : AgentFault) (present : List ℕ) (w : ℕ)
      → new.entries ≡ old.entries ++ front ++ entries.Answer n r (Some fault) ∷ back
      → IsNoisyRun new r present w → is_closed new.opening (old.entries ++ front) ≡ true
