-- What clients are promised about discoveries, for one log, by its positions and counts.
use Rattle.std.specs.Prelude.{◌≡◌, ◌≢◌, ◌⊎◌, ℕ, ◌<◌, ◌≤◌, true, false, List, ◌∷◌, ◌++◌, length, map, filter, Option}
use Rattle.std.specs.Prelude.{Some, None, ◌==◌, slice_get}
use Rattle.std.specs.List.{AllByRecursion, Contains, range_with_len}
use Rattle.rdm_wire.specs.Uid.{has, IsDevice}
use Rattle.rdm_wire.specs.Devices.{uids_of}
use Rattle.rdm_wire.specs.Honest.{HonestTo, HonestTrace}
use Rattle.rdm_wire.specs.HonestOver.{HonestOver}
use Rattle.rdm_wire.specs.Noisy.{NoisyTo, NoisyTrace}
use Rattle.rdm_agent.specs.Run.{IsReport}
use Rattle.rdm_agent.specs.Statements.{IsInEach, IsInOne}
use Rattle.rdm_agent.specs.declared.kind.Kind.{Kind}
use Rattle.rdm_agent.specs.declared.kind.Kind.TheVariants as kinds
use Rattle.rdm_agent.specs.declared.fault.AgentFault.{AgentFault}
use Rattle.rdm_log.specs.declared.entry.ClientId.{ClientId}
use Rattle.rdm_log.specs.declared.entry.Call.TheVariants as calls
use Rattle.rdm_log.specs.declared.entry.Cause.{Cause}
use Rattle.rdm_log.specs.declared.entry.Opening.{Opening}
use Rattle.rdm_log.specs.declared.entry.Entry.{Entry}
use Rattle.rdm_log.specs.declared.entry.Entry.TheVariants.{Refuse, Ask, Answer}
use Rattle.rdm_log.specs.declared.fault.WorkFault.TheVariants.{Full}
use Rattle.rdm_log.specs.log.Entries.{AskedDiscovery, Answered, asks, answers}
use Rattle.rdm_log.specs.log.History.{awaited, is_closed, next_client, next_ask}
use Rattle.rdm_log.specs.log.Clients.{asks_by, answers_to, outstanding_discoveries}
use Rattle.rdm_log.specs.log.Runs.{has_begun, entries_before_run, run_exchanges, run_devices}
use Rattle.rdm_log.specs.log.Runs.{answer_devices, known_devices}
use Rattle.rdm_log.specs.log.Runs.{served, run_kind, last_run_without_fault}
use Rattle.rdm_log.specs.log.MayAnswer.{Shows}
use Rattle.rdm_log.specs.log.Due.{has_answer}
use Rattle.rdm_log.specs.log.Refusals.{number_of_work_fault}
use Rattle.rdm_log.specs.promises.Outcomes.{outcome_of}
use Rattle.rdm_log.specs.promises.Headline.{Begins}

-- the numbers of the discoveries that were asked for, in order
abbrev pub numbers_asked : List AskedDiscovery → List ℕ
numbers_asked some = map (λ a. a.number) some

-- the numbers of the discoveries that were answered, in order
abbrev pub numbers_answered : List Answered → List ℕ
numbers_answered some = map (λ b. b.number) some

-- how many answers a discovery has
abbrev pub answer_count : ℕ → List Entry → ℕ
answer_count n h = length (filter (λ m. n == m) (numbers_answered (answers h)))

-- No discovery has two answers, only discoveries that were asked for have one, and each of them has one once the queue
-- is closed and awaits no reply.
pub record OneAnswer (o : Opening) (h : List Entry) : Type 0 where
  -- no discovery has two
  pub at_most_one : (n : ℕ) → answer_count n h ≤ 1
  -- none has one that wasn't asked for
  pub asked : (n : ℕ) → 0 < answer_count n h → Contains (numbers_asked (asks h)) n
  -- once closed, with no reply awaited, each discovery that was asked for has one
  pub exactly_one : is_closed o h ≡ true → awaited h ≡ false → (n : ℕ) → Contains (numbers_asked (asks h)) n
      → answer_count n h ≡ 1

-- First in, first out: discoveries are answered in the order in which they were asked for, and so are each client's.
-- Numbers rise by one.
pub record AnsweredInOrder (o : Opening) (h : List Entry) : Type 0 where
  -- numbers rise by one from the opening's, so no two discoveries share one
  pub numbered : numbers_asked (asks h) ≡ range_with_len o.next_ask (length (asks h))
  -- discoveries are answered in the order in which they were asked for
  pub all : Begins (numbers_answered (answers h)) (numbers_asked (asks h))
  -- so are each client's
  pub each : (c : ℕ) → Begins (numbers_answered (answers (answers_to o c h))) (numbers_asked (asks_by c h))

-- The devices of an Answer are those that the line showed during its run.
pub record AnswersReportTheLine (o : Opening) (h : List Entry) : Type 0 where
  -- on an honest line whose devices stay: without fault exactly these, whatever bytes colliding replies make
  pub exactly : (front back : List Entry) (n r : ℕ) (present : List ℕ) → h ≡ front ++ Answer n r None ∷ back
      → HonestTrace present (run_exchanges r h) → uids_of (answer_devices r h) ≡ present
  -- and even with a fault, no others
  pub no_phantom : (front back : List Entry) (n r : ℕ) (fault : Option AgentFault) (present : List ℕ) (u : ℕ)
      → h ≡ front ++ Answer n r fault ∷ back → HonestTrace present (run_exchanges r h)
      → has (uids_of (answer_devices r h)) u ≡ true → has present u ≡ true
  -- on a line that is honest towards one device: without fault that device, whatever others do
  pub each : (front back : List Entry) (n r u : ℕ) → h ≡ front ++ Answer n r None ∷ back → IsDevice u
      → HonestTo u (run_exchanges r h) → has (uids_of (answer_devices r h)) u ≡ true
  -- on an honest line whose devices come and leave: without fault each that was always present
  pub staying : (front back : List Entry) (n r : ℕ) (sets : List (List ℕ)) (u : ℕ)
      → h ≡ front ++ Answer n r None ∷ back → HonestOver sets (run_exchanges r h) → IsInEach u sets
      → has (uids_of (answer_devices r h)) u ≡ true
  -- and none that was never present
  pub no_stranger : (front back : List Entry) (n r : ℕ) (fault : Option AgentFault) (sets : List (List ℕ)) (u : ℕ)
      → h ≡ front ++ Answer n r fault ∷ back → HonestOver sets (run_exchanges r h)
      → has (uids_of (answer_devices r h)) u ≡ true → IsInOne u sets
  -- each device is as the first acknowledgement of its mute in the run describes it
  pub report : (r : ℕ) → IsReport (run_exchanges r h) (run_devices r h)
  -- the known devices are those of the last Answer without fault, for which all this holds; or else the opening's
  pub known_from : (r : ℕ) → last_run_without_fault h ≡ Some r
      → (n : ℕ) × Contains h (Answer n r None) × (known_devices o h ≡ answer_devices r h)
  pub known_before : last_run_without_fault h ≡ None → known_devices o h ≡ o.devices
  -- and so they are exactly the devices present, until another run is answered without fault
  pub known : (r : ℕ) (present : List ℕ) → last_run_without_fault h ≡ Some r → HonestTrace present (run_exchanges r h)
      → uids_of (known_devices o h) ≡ present

-- The devices of an Answer are those that a noisy line showed during its run, however many exchanges were disturbed.
pub record AnswersReportANoisyLine (o : Opening) (h : List Entry) : Type 0 where
  -- on a noisy line whose devices stay: without fault exactly these
  pub exactly : (front back : List Entry) (n r : ℕ) (present : List ℕ) → h ≡ front ++ Answer n r None ∷ back
      → NoisyTrace present (run_exchanges r h) → uids_of (answer_devices r h) ≡ present
  -- and even with a fault, no others
  pub no_phantom : (front back : List Entry) (n r : ℕ) (fault : Option AgentFault) (present : List ℕ) (u : ℕ)
      → h ≡ front ++ Answer n r fault ∷ back → NoisyTrace present (run_exchanges r h)
      → has (uids_of (answer_devices r h)) u ≡ true → has present u ≡ true
  -- without fault each device that follows the rules of a noisy line, whatever others do
  pub each : (front back : List Entry) (n r u : ℕ) → h ≡ front ++ Answer n r None ∷ back → IsDevice u
      → NoisyTo u (run_exchanges r h) → has (uids_of (answer_devices r h)) u ≡ true
  -- the known devices are exactly the devices present, until another run is answered without fault
  pub known : (r : ℕ) (present : List ℕ) → last_run_without_fault h ≡ Some r → NoisyTrace present (run_exchanges r h)
      → uids_of (known_devices o h) ≡ present

-- One run answers the discoveries that were asked for before it began, all alike, with what it shows.
pub record RunsAnswer (o : Opening) (h : List Entry) : Type 0 where
  -- an Answer says what its run has shown: without fault, the certificate; with a fault, its cause
  pub shows : (front back : List Entry) (n r : ℕ) (fault : Option AgentFault) → h ≡ front ++ Answer n r fault ∷ back
      → r ≢ 0 → Shows o front r fault
  -- a run is full if one of the discoveries that it serves is, or else incremental
  pub full : (r : ℕ) (a : AskedDiscovery) → Contains (served r h) a → a.kind ≡ kinds.Full → run_kind r h ≡ kinds.Full
  pub incremental : (r : ℕ) → AllByRecursion (λ a. a.kind ≡ kinds.Incremental) (served r h)
      → run_kind r h ≡ kinds.Incremental
  -- a run that an Answer names has begun
  pub begun : (front back : List Entry) (n r : ℕ) (fault : Option AgentFault) → h ≡ front ++ Answer n r fault ∷ back
      → r ≢ 0 → has_begun r front ≡ true
  -- and the discovery was asked for before it did
  pub asked_first : (front back : List Entry) (n r : ℕ) (fault : Option AgentFault)
      → h ≡ front ++ Answer n r fault ∷ back → r ≢ 0 → Contains (numbers_asked (asks (entries_before_run r h))) n
  -- its Answers agree
  pub agree : (i j : ℕ) (a b : Answered) → slice_get (answers h) i ≡ Some a → slice_get (answers h) j ≡ Some b
      → a.run ≢ 0 → a.run ≡ b.run → a.fault ≡ b.fault
  -- if it has an Answer, all discoveries that it serves have one, and no other run answers them
  pub all_served : (i : ℕ) (b : Answered) (a : AskedDiscovery) → slice_get (answers h) i ≡ Some b
      → Contains (served b.run h) a → has_answer a.number h ≡ true
  pub by_one : (r i : ℕ) (b : Answered) (a : AskedDiscovery) → slice_get (answers h) i ≡ Some b
      → Contains (served r h) a → b.number ≡ a.number → b.run ≡ r
  -- after an Answer by a run no exchange is made for the run, and the outcome of that Answer is unchanged
  pub ended : (front back : List Entry) (n r : ℕ) (fault : Option AgentFault) → h ≡ front ++ Answer n r fault ∷ back
      → run_exchanges r h ≡ run_exchanges r front
  pub stays : (front back : List Entry) (n r : ℕ) (fault : Option AgentFault) → h ≡ front ++ Answer n r fault ∷ back
      → outcome_of h (Answer n r fault) ≡ outcome_of front (Answer n r fault)

-- A client is only answered what it asked for, and its outcomes don't change.
pub record OwnDiscoveries (o : Opening) (h : List Entry) : Type 0 where
  pub own : (c n r : ℕ) (fault : Option AgentFault) → Contains (answers_to o c h) (Answer n r fault)
      → (client : ClientId) × (kind : Kind) × (client.0 ≡ c) × Contains h (Ask client n kind)
  pub lasts : (front back : List Entry) (c i : ℕ) (x : Entry) → h ≡ front ++ back
      → slice_get (answers_to o c front) i ≡ Some x → outcome_of h x ≡ outcome_of front x

-- the client has four discoveries outstanding, or the numbers have run out, and no earlier fault applies
pub record HasMostDiscoveries (o : Opening) (h : List Entry) (c : ℕ) : Type 0 where
  pub not_closed : is_closed o h ≡ false
  pub known : c < next_client o h
  pub full : (4 ≤ outstanding_discoveries o c h) ⊎ (18446744073709551614 ≤ next_ask o h)

-- A discover is refused with Full only if its client has four discoveries outstanding or the numbers have run out, and
-- it isn't accepted then.
pub record FullRefusesDiscoveries (o : Opening) (h : List Entry) : Type 0 where
  -- before the Refuse of a discover with Full's number, HasMostDiscoveries holds for its client
  pub refused : (front back : List Entry) (c : ClientId) (kind : Kind) (cause : Cause)
      → h ≡ front ++ Refuse (Some c) (calls.Discover kind) cause ∷ back → cause.0 ≡ number_of_work_fault Full
      → HasMostDiscoveries o front c.0
  -- before an Ask, it doesn't hold for its client
  pub accepted : (front back : List Entry) (c : ClientId) (n : ℕ) (kind : Kind)
      → h ≡ front ++ Ask c n kind ∷ back → HasMostDiscoveries o front c.0 → ⊥

-- All that clients are promised about discoveries, for each legal log.
pub record DiscoveriesPromised (o : Opening) (h : List Entry) : Type 0 where
  -- each discovery that was asked for is answered at most once, and exactly once when the queue is closed and awaits
  -- no reply
  pub one_answer : OneAnswer o h
  -- discoveries are answered in the order in which they were asked for
  pub in_order : AnsweredInOrder o h
  -- the devices of an Answer are those that the line showed during its run
  pub all_report_the_line : AnswersReportTheLine o h
  -- a run answers the discoveries that were asked for before it began, all alike, and nothing changes its answers later
  pub runs_answer : RunsAnswer o h
  -- a client is only answered what it asked for, and its outcomes don't change later
  pub own_discoveries : OwnDiscoveries o h
  -- a client that has as many discoveries as it may is refused another, and only such a client is refused as full
  pub full_refuses : FullRefusesDiscoveries o h
