-- What a queue holds, as numbers and lists, what calls read of it, and how they change it.
use Rattle.std.specs.Prelude.{◌≡◌, ◌⊎◌, ℕ, ◌<◌, ◌+◌, Bool, true, false, ◌&&◌, not, List, [], ◌∷◌, ◌++◌, length}
use Rattle.std.specs.Prelude.{drop, filter, map, sum, set, get_or, Option, Some, None, ◌==◌, if◌then◌else◌, is_some}
use Rattle.std.specs.Prelude.{slice_get, option_map}
use Rattle.rdm_join.specs.declared.event.LineEvent.{LineEvent}
use Rattle.rdm_join.specs.declared.verdict.Sent.{Sent}
use Rattle.rdm_join.specs.declared.verdict.Judged.{Judged}
use Rattle.rdm_join.specs.Verdict.{verdict}
use Rattle.rdm_join.specs.Result.{Joined, result_of, ended, or_if_open}
use Rattle.rdm_join.specs.JoinerStanding.{JoinerStanding}
use Rattle.rdm_join.specs.body.Standing.{StandsAt, standing_at}
use Rattle.rdm_join.specs.declared.status.Status.TheVariants.{FailedToSend, NoMemory}
use Rattle.rdm_wire.specs.declared.request.Request.{Request}
use Rattle.rdm_wire.specs.declared.device.Device.{Device}
use Rattle.rdm_agent.specs.Machine.{AgentState, start}
use Rattle.rdm_agent.specs.declared.search.Search.{Search}
use Rattle.rdm_agent.specs.declared.kind.Kind.{Kind}
use Rattle.rdm_agent.specs.declared.kind.Kind.TheVariants.{Full}
use Rattle.rdm_log.specs.declared.config.Setup.{Setup}
use Rattle.rdm_queue.specs.declared.pending.Awaited.{Awaited}
use Rattle.rdm_log.specs.declared.fault.JoinFault.{JoinFault}
use Rattle.rdm_log.specs.declared.fault.WorkFault.{WorkFault}
use Rattle.rdm_log.specs.declared.work.Work.{Work}
use Rattle.rdm_log.specs.declared.work.Work.TheVariants.{Submit, Discover}
use Rattle.rdm_log.specs.declared.entry.Opening.{Opening}
use Rattle.rdm_log.specs.declared.entry.Entry.{Entry}
use Rattle.rdm_log.specs.declared.entry.Entry.TheVariants.{Finish}
use Rattle.rdm_log.specs.log.BrokenKeys.{BrokenKeys, none_open}
use Rattle.rdm_log.specs.log.Broken.{key_of_first, after_end, is_end_flagged}
use Rattle.rdm_log.specs.log.Entries.{Accepted, AskedDiscovery}
use Rattle.rdm_log.specs.log.Refusals.{join_fault_at, submit_fault_at, ask_fault_at}
use Rattle.rdm_log.specs.promises.Outcomes.{OutcomeValue}
use Rattle.rdm_log.specs.promises.Outcomes.OutcomeValue.{RequestValue, DiscoveryValue}
use Rattle.rdm_log.specs.declared.outcome.OutcomeKind.{OutcomeKind}
use Rattle.rdm_log.specs.declared.outcome.OutcomeKind.TheVariants as kinds

-- how a request ended, until its client collects it
pub record OwedOutcome : Type 0 where
  pub client : ℕ
  pub number : ℕ
  pub done : Joined

-- a run that has begun; it serves this many of the unanswered discoveries, the oldest ones
pub record RunState : Type 0 where
  pub number : ℕ
  pub left : ℕ

pub record QueueState : Type 0 where
  pub source : ℕ
  pub greatest : ℕ
  pub budget : ℕ
  -- how its runs search
  pub search : Search
  pub places : List ℕ
  pub paused : Bool
  pub closed : Bool
  pub next_request : ℕ
  pub next_tn : ℕ
  -- the unfinished requests, oldest first
  pub waiting : List Accepted
  -- what was sent, while its reply is awaited
  pub awaited : Option Awaited
  -- whether a frame was sent for the oldest unfinished request
  pub under_way : Bool
  -- the replies to the oldest unfinished request
  pub joiner : JoinerStanding
  -- how the oldest unfinished request has ended, until it is finished
  pub decided : Option Joined
  pub next_ask : ℕ
  pub next_run : ℕ
  -- the unanswered discoveries, oldest first
  pub asked : List AskedDiscovery
  -- the run that has begun, and the agent of the last one
  pub run : Option RunState
  pub agent : AgentState
  -- the devices of the last run without fault, and that run
  pub devices : List Device
  pub devices_run : ℕ
  -- for each client the outcomes that it hasn't collected, oldest first
  pub owed : List (List OutcomeValue)
  -- what GETs asked for whose answers broke off
  pub broken : BrokenKeys
  -- for each of those outcomes whether it is an answer that may be incomplete
  pub flags : List (List Bool)

-- a queue with this set-up, before its first call
abbrev pub first_state : Setup → QueueState
first_state setup = record {
  source = setup.config.source;
  greatest = setup.config.places;
  budget = setup.config.budget;
  search = setup.search;
  places = [];
  paused = false;
  closed = false;
  next_request = 0;
  next_tn = 0;
  waiting = [];
  awaited = None;
  under_way = false;
  joiner = standing_at None [];
  decided = None;
  next_ask = 0;
  next_run = 1;
  asked = [];
  run = None;
  agent = start Full [] setup.config.budget;
  devices = [];
  devices_run = 0;
  owed = [];
  broken = none_open;
  flags = [];
}

abbrev pub waiting_of : ℕ → QueueState → List Accepted
waiting_of c s = filter (λ a. c == a.client) s.waiting

abbrev pub asked_of : ℕ → QueueState → List AskedDiscovery
asked_of c s = filter (λ a. c == a.client) s.asked

abbrev pub owed_to : ℕ → QueueState → List OutcomeValue
owed_to c s = get_or s.owed c []

-- one more outcome for a client
abbrev pub owes : ℕ → OutcomeValue → QueueState → List (List OutcomeValue)
owes c d s = set s.owed c (owed_to c s ++ d ∷ [])

-- the same for the flags of a client's outcomes
abbrev pub flags_to : ℕ → QueueState → List Bool
flags_to c s = get_or s.flags c []

abbrev pub flags_more : ℕ → Bool → QueueState → List (List Bool)
flags_more c flag s = set s.flags c (flags_to c s ++ flag ∷ [])

-- all uncollected outcomes
abbrev pub uncollected : QueueState → ℕ
uncollected s = sum (map (λ ds. length ds) s.owed)

-- the unfinished requests and the unanswered discoveries
abbrev pub unended : QueueState → ℕ
unended s = length s.waiting + length s.asked

abbrev pub is_discovery : OutcomeValue → Bool
is_discovery (RequestValue number done) = false
is_discovery (DiscoveryValue number done) = true

-- a client's requests that aren't finished or not collected, and its discoveries
abbrev pub outstanding : ℕ → QueueState → ℕ
outstanding c s = length (waiting_of c s) + length (filter (λ d. not (is_discovery d)) (owed_to c s))

abbrev pub outstanding_asks : ℕ → QueueState → ℕ
outstanding_asks c s = length (asked_of c s) + length (filter is_discovery (owed_to c s))

abbrev pub first_join_fault : QueueState → ℕ → Option JoinFault
first_join_fault s n = join_fault_at s.closed s.places s.greatest n

abbrev pub first_submit_fault : QueueState → ℕ → Option WorkFault
first_submit_fault s c = submit_fault_at s.closed s.places (outstanding c s) s.next_request c

abbrev pub first_ask_fault : QueueState → ℕ → Option WorkFault
first_ask_fault s c = ask_fault_at s.closed s.places (outstanding_asks c s) s.next_ask c

abbrev pub first_fault : QueueState → ℕ → Work → Option WorkFault
first_fault s c (Submit request) = first_submit_fault s c
first_fault s c (Discover kind) = first_ask_fault s c

-- the number that work gets
abbrev pub number_for : QueueState → Work → ℕ
number_for s (Submit request) = s.next_request
number_for s (Discover kind) = s.next_ask

-- one more client, with this queue depth
abbrev pub joins_client : QueueState → ℕ → QueueState
joins_client s n =
    record s { places = s.places ++ n ∷ []; owed = s.owed ++ [] ∷ []; flags = s.flags ++ [] ∷ [] }

-- how a request ended, as its client sees it, and the entry of its Finish
abbrev pub owed_value : OwedOutcome → OutcomeValue
owed_value d = RequestValue (Some d.number) d.done

abbrev pub finish_of : OwedOutcome → Entry
finish_of d = Finish d.number d.done.status (length d.done.data_)

-- the outcome of a request that ended like this
abbrev pub owed_for : Joined → Accepted → OwedOutcome
owed_for j a = record { client = a.client; number = a.number; done = j }

-- a joiner without verdicts
abbrev pub fresh_joiner : JoinerStanding
fresh_joiner = standing_at None []

-- whether it is closed and awaits no reply, so that everything is to be ended
abbrev pub is_closing : QueueState → Bool
is_closing s = s.closed && not (is_some s.awaited)

-- how the oldest request is to be finished, if at all: as it has ended, or unsent at a close
abbrev pub end_of_oldest : QueueState → Option Joined
end_of_oldest s = or_if_open s.decided (if is_closing s then Some (ended FailedToSend) else None)

-- the outcome of the oldest of these, if it has ended
abbrev pub owed_next : Option Joined → List Accepted → Option OwedOutcome
owed_next (Some done) (a ∷ waiting) = Some (owed_for done a)
owed_next (Some done) [] = None
owed_next None waiting = None

-- the outcome of the request that is due to be finished
abbrev pub due : QueueState → Option OwedOutcome
due s = owed_next (end_of_oldest s) s.waiting

-- whether the answer of the oldest request, which ends like this, may be incomplete; and the keys that are open then
abbrev pub flag_at_end : QueueState → Joined → Bool
flag_at_end s done = is_end_flagged (key_of_first s.waiting) done.status done.head s.broken

abbrev pub broken_after : QueueState → Joined → BrokenKeys
broken_after s done = after_end (key_of_first s.waiting) s.under_way done.status done.head s.broken

-- the oldest request, finished with this end
abbrev pub finishes_oldest : QueueState → OwedOutcome → QueueState
finishes_oldest s d = record s {
  waiting = drop 1 s.waiting;
  under_way = false;
  joiner = fresh_joiner;
  decided = None;
  owed = owes d.client (owed_value d) s;
  broken = broken_after s d.done;
  flags = flags_more d.client (flag_at_end s d.done) s;
}

-- the request that was due was finished, with this entry
pub record IsFinished (old : QueueState) (entry : Entry) (new : QueueState) : Type 0 where
  pub owed : OwedOutcome
  pub was_due : due old ≡ Some owed
  pub entry_is : entry ≡ finish_of owed
  pub new_is : new ≡ finishes_oldest old owed

-- a client's request, as the queue holds it once it is accepted
abbrev pub accepted_as : QueueState → ℕ → Request → Accepted
accepted_as s c request = record { client = c; number = s.next_request; request = request }

abbrev pub accepts_request : QueueState → ℕ → Request → QueueState
accepts_request s c request =
    record s { next_request = s.next_request + 1; waiting = s.waiting ++ accepted_as s c request ∷ [] }

-- a client's discovery, as the queue holds it once it is accepted
abbrev pub asked_as : QueueState → ℕ → Kind → AskedDiscovery
asked_as s c kind = record { client = c; number = s.next_ask; kind = kind }

abbrev pub asks_discovery : QueueState → ℕ → Kind → QueueState
asks_discovery s c kind = record s { next_ask = s.next_ask + 1; asked = s.asked ++ asked_as s c kind ∷ [] }

abbrev pub accepts_work : QueueState → ℕ → Work → QueueState
accepts_work s c (Submit request) = accepts_request s c request
accepts_work s c (Discover kind) = asks_discovery s c kind

-- a client's oldest outcome removed
abbrev pub collects_oldest : QueueState → ℕ → QueueState
collects_oldest s c =
    record s { owed = set s.owed c (drop 1 (owed_to c s)); flags = set s.flags c (drop 1 (flags_to c s)) }

-- this was the client's oldest outcome, and was removed
pub record CollectsOldest (old : QueueState) (c : ℕ) (outcome : OutcomeValue) (new : QueueState) : Type 0 where
  pub oldest : slice_get (owed_to c old) 0 ≡ Some outcome
  pub new_is : new ≡ collects_oldest old c

-- the kind of a client's oldest outcome
abbrev pub kind_of_value : OutcomeValue → OutcomeKind
kind_of_value (RequestValue number done) = kinds.Request
kind_of_value (DiscoveryValue number done) = kinds.Discovery

abbrev pub first_kind : ℕ → QueueState → Option OutcomeKind
first_kind c s = option_map kind_of_value (slice_get (owed_to c s) 0)

-- the opening of a log that continues from here
abbrev pub opening_of : QueueState → Opening
opening_of s = record {
  source = s.source;
  greatest = s.greatest;
  budget = s.budget;
  search = s.search;
  places = record { items = s.places };
  paused = s.paused;
  closed = s.closed;
  devices = s.devices;
  devices_run = s.devices_run;
  broken = s.broken;
  next_request = s.next_request;
  next_ask = s.next_ask;
  next_run = s.next_run;
  next_tn = s.next_tn;
}

-- a decided result is returned unchanged, unless there is no memory for its data
abbrev pub GivesResult : Joined → Joined → Type 0
GivesResult j done = (done ≡ j) ⊎ ((done ≡ ended NoMemory) × (0 < length j.data_))

-- the state of the oldest request after these verdicts: its joiner has them, or it has ended
abbrev pub StandingAt : Option Joined → List Judged → Option Joined → JoinerStanding → Type 0
StandingAt None vs decided joiner = (decided ≡ None) × StandsAt vs joiner
StandingAt (Some j) vs decided joiner =
    (done : Joined) × GivesResult j done × (decided ≡ Some done) × (joiner ≡ fresh_joiner)

abbrev pub IsStanding : List Judged → Option Joined → JoinerStanding → Type 0
IsStanding vs decided joiner = StandingAt (result_of vs) vs decided joiner

-- what came was heard, and these are then the verdicts on the oldest request
pub record Hears (vs : List Judged) (old new : QueueState) : Type 0 where
  pub standing : IsStanding vs new.decided new.joiner
  pub new_is : new ≡ record old { awaited = None; joiner = new.joiner; decided = new.decided }

-- what came for this frame of the oldest request, which hadn't ended, was heard
abbrev pub HearsRequest : Sent → LineEvent → QueueState → QueueState → Type 0
HearsRequest sent event old new =
    (vs : List Judged) → old.decided ≡ None → StandsAt vs old.joiner → Hears (vs ++ verdict sent event ∷ []) old new
