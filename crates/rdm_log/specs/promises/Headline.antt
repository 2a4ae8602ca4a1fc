-- What clients are promised, for one log, by its positions and counts.
use Rattle.std.specs.Prelude.{◌≡◌, ◌≢◌, ◌⊎◌, ℕ, ◌+◌, ◌%◌, ◌<◌, ◌≤◌, true, false, List, [], ◌∷◌, ◌++◌, length, map}
use Rattle.std.specs.Prelude.{filter}
use Rattle.arrayvec.specs.ArrayVec.{ArrayVec}
use Rattle.std.specs.Prelude.{Option, Some, ◌==◌, slice_index, slice_get}
use Rattle.std.specs.List.{Contains, range_with_len}
use Rattle.rdm_wire.specs.declared.request.Request.{Request}
use Rattle.rdm_wire.specs.Packet.{Packet}
use Rattle.rdm_wire.specs.CommandFrames.{request_fields}
use Rattle.rdm_join.specs.declared.status.Status.{Status}
use Rattle.rdm_join.specs.declared.status.Status.TheVariants.{Completed, FailedToSend, NoMemory}
use Rattle.rdm_join.specs.Result.{Joined, IsResult}
use Rattle.rdm_log.specs.log.MayFinish.{FitsJoined}
use Rattle.rdm_log.specs.declared.entry.ClientId.{ClientId}
use Rattle.rdm_log.specs.declared.entry.Owner.TheVariants as owners
use Rattle.rdm_log.specs.declared.entry.Call.{Call}
use Rattle.rdm_log.specs.declared.entry.Call.TheVariants as calls
use Rattle.rdm_log.specs.declared.entry.Cause.{Cause}
use Rattle.rdm_log.specs.declared.entry.Opening.{Opening}
use Rattle.rdm_log.specs.declared.entry.Entry.{Entry}
use Rattle.rdm_log.specs.declared.entry.Entry.TheVariants.{Refuse, Accept, Finish, Close}
use Rattle.rdm_log.specs.declared.fault.WorkFault.TheVariants.{Full}
use Rattle.rdm_log.specs.log.Entries.{Accepted, Finished, OwnedExchange, joins, accepts, asks, sends, finishes}
use Rattle.rdm_log.specs.log.Entries.{of_request, verdicts, result}
use Rattle.rdm_log.specs.log.History.{awaited, is_paused, is_closed, places, next_client, next_request, frames_sent}
use Rattle.rdm_log.specs.log.History.{unfinished, unanswered, under_way, next_ask}
use Rattle.rdm_log.specs.log.Runs.{unserved, served, open_run, next_run, run_frames, run_exchanges, known_devices}
use Rattle.rdm_log.specs.log.Runs.{devices_run}
use Rattle.rdm_log.specs.log.Clients.{accepts_by, answers_to, uncollected, outstanding_requests}
use Rattle.rdm_log.specs.log.Clients.{outstanding_discoveries}
use Rattle.rdm_log.specs.log.Refusals.{number_of_work_fault}
use Rattle.rdm_log.specs.log.Broken.{incomplete}

-- the numbers of the accepted requests, in order
abbrev pub numbers_accepted : List Accepted → List ℕ
numbers_accepted some = map (λ a. a.number) some

-- the numbers of the finished requests, in order
abbrev pub numbers_finished : List Finished → List ℕ
numbers_finished some = map (λ f. f.number) some

-- how many results a request has: how many Finishes have its number
abbrev pub result_count : ℕ → List Entry → ℕ
result_count n h = length (filter (λ m. n == m) (numbers_finished (finishes h)))

-- No request has two results, only accepted requests have one, and each of them has one once the queue is closed and
-- awaits no reply.
pub record OneResult (o : Opening) (h : List Entry) : Type 0 where
  -- no request has two
  pub at_most_one : (n : ℕ) → result_count n h ≤ 1
  -- none has one that wasn't accepted
  pub accepted : (n : ℕ) → 0 < result_count n h → Contains (numbers_accepted (accepts h)) n
  -- once closed, with no reply awaited, each accepted request has one
  pub exactly_one : is_closed o h ≡ true → awaited h ≡ false → (n : ℕ) → Contains (numbers_accepted (accepts h)) n
      → result_count n h ≡ 1

-- the frame is the packet, with this transaction number, of the request that was accepted under number n
pub record CarriesRequest (o : Opening) (h : List Entry) (n tn : ℕ) (frame : List ℕ) : Type 0 where
  pub accepted : Accepted
  pub index : ℕ
  pub stands : slice_get (accepts h) index ≡ Some accepted
  pub number : accepted.number ≡ n
  pub packet : Packet (request_fields accepted.request o.source tn) frame

-- A request's frames carry that request.
pub record OwnRequests (o : Opening) (h : List Entry) : Type 0 where
  -- each frame that was sent for it does, with the transaction number of its index among all frames
  pub sent : (i n : ℕ) (frame : ArrayVec ℕ)
      → slice_get (sends h) i ≡ Some (record { owner = owners.Request n; frame = frame })
      → CarriesRequest o h n ((o.next_tn + i) % 256) frame.items
  -- and so does each frame in the request's exchanges
  pub carried : (n i : ℕ) (t : OwnedExchange) → slice_get (of_request n h) i ≡ Some t
      → (tn : ℕ) × CarriesRequest o h n tn t.frame.items

-- A Finish after h reports the joined answer of the request's own exchanges.
pub record OwnAnswer (o : Opening) (h : List Entry) (n : ℕ) (status : Status) (len : ℕ) : Type 0 where
  -- if its exchanges decide a result, that is reported
  pub decided : (j : Joined) → IsResult (verdicts n h) j → FitsJoined j status len
  -- if they decide none, the queue is closed, no reply is awaited, and the status is FailedToSend
  pub undecided : ((j : Joined) → IsResult (verdicts n h) j → ⊥)
      → (status ≡ FailedToSend) × (len ≡ 0) × (is_closed o h ≡ true) × (awaited h ≡ false)
  -- NoMemory replaces data that came, and nothing else
  pub no_memory : status ≡ NoMemory → (j : Joined) × IsResult (verdicts n h) j × (j.status ≡ Completed) × (j.data_ ≢ [])
  -- only status Completed has data
  pub no_data : status ≢ Completed → len ≡ 0

-- Each request's Finish has the joined answer of that request's own exchanges.
pub record OwnAnswers (o : Opening) (h : List Entry) : Type 0 where
  pub each : (front back : List Entry) (n : ℕ) (status : Status) (len : ℕ) → h ≡ front ++ Finish n status len ∷ back
      → OwnAnswer o front n status len
  -- nothing after it changes the result
  pub stays : (front back : List Entry) (n : ℕ) (status : Status) (len : ℕ) → h ≡ front ++ Finish n status len ∷ back
      → result n h ≡ result n front

-- a list begins with these
pub record Begins {X : Type 0} (firsts all : List X) : Type 0 where
  pub rest : List X
  pub whole : all ≡ firsts ++ rest

-- First in, first out: requests finish in the order in which they were accepted, and so do each client's. Numbers rise
-- by one.
pub record InOrder (o : Opening) (h : List Entry) : Type 0 where
  -- numbers rise by one from the opening's, so no two requests share one
  pub numbered : numbers_accepted (accepts h) ≡ range_with_len o.next_request (length (accepts h))
  -- requests finish in the order in which they were accepted
  pub all : Begins (numbers_finished (finishes h)) (numbers_accepted (accepts h))
  -- so do each client's
  pub each : (c : ℕ) → Begins (numbers_finished (finishes (answers_to o c h))) (numbers_accepted (accepts_by c h))

-- the client's queue depth is used up, or the numbers have run out, and no earlier fault applies
pub record IsFull (o : Opening) (h : List Entry) (c : ℕ) : Type 0 where
  pub not_closed : is_closed o h ≡ false
  pub known : c < next_client o h
  pub full : (slice_index (places o h) c ≤ outstanding_requests o c h) ⊎ (18446744073709551615 ≤ next_request o h)

-- k says the same about the queue as h
pub record SameQueue (o : Opening) (h k : List Entry) : Type 0 where
  pub paused : is_paused o k ≡ is_paused o h
  pub closed : is_closed o k ≡ is_closed o h
  pub awaiting : awaited k ≡ awaited h
  pub clients : places o k ≡ places o h
  pub next_number : next_request o k ≡ next_request o h
  pub frames : frames_sent o k ≡ frames_sent o h
  pub waiting : unfinished k ≡ unfinished h
  pub sent : under_way k ≡ under_way h
  pub results : (n : ℕ) → result n k ≡ result n h
  pub uncollected_of : (c : ℕ) → uncollected o c k ≡ uncollected o c h
  pub outstanding : (c : ℕ) → outstanding_requests o c k ≡ outstanding_requests o c h
  pub next_discovery : next_ask o k ≡ next_ask o h
  pub asked : unanswered k ≡ unanswered h
  pub unserved_ones : unserved k ≡ unserved h
  pub served_ones : (r : ℕ) → served r k ≡ served r h
  pub run : open_run k ≡ open_run h
  pub next_run_number : next_run o k ≡ next_run o h
  pub run_sent : (r : ℕ) → run_frames r k ≡ run_frames r h
  pub exchanges : (r : ℕ) → run_exchanges r k ≡ run_exchanges r h
  pub devices : known_devices o k ≡ known_devices o h
  pub devices_from : devices_run o k ≡ devices_run o h
  pub outstanding_asked : (c : ℕ) → outstanding_discoveries o c k ≡ outstanding_discoveries o c h
  pub incomplete_ones : incomplete o k ≡ incomplete o h

-- A full queue refuses a request, and only the refusal's entry shows it.
pub record FullRefuses (o : Opening) (h : List Entry) : Type 0 where
  -- a submit is refused as full only if the client's queue is full
  pub refused : (front back : List Entry) (c : ClientId) (request : Request) (cause : Cause)
      → h ≡ front ++ Refuse (Some c) (calls.Submit request) cause ∷ back → cause.0 ≡ number_of_work_fault Full
      → IsFull o front c.0
  -- and then it isn't accepted
  pub accepted : (front back : List Entry) (c : ClientId) (n : ℕ) (request : Request)
      → h ≡ front ++ Accept c n request ∷ back → IsFull o front c.0 → ⊥
  -- after a refusal's entry the log says the same about the queue as before
  pub unchanged : (front back : List Entry) (c : Option ClientId) (call : Call) (cause : Cause)
      → h ≡ front ++ Refuse c call cause ∷ back → SameQueue o front (front ++ Refuse c call cause ∷ [])

-- nobody joins, no request and no discovery is accepted, and no frame is sent
pub record NothingStarts (h : List Entry) : Type 0 where
  pub no_client : joins h ≡ []
  pub no_request : accepts h ≡ []
  pub no_discovery : asks h ≡ []
  pub no_frame : sends h ≡ []

-- Nothing starts after a close.
pub record NothingAfterClose (o : Opening) (h : List Entry) : Type 0 where
  pub after : (front back : List Entry) → h ≡ front ++ Close ∷ back → NothingStarts back
  pub closed_before : o.closed ≡ true → NothingStarts h
