-- A log's entries, oldest first, as lists: what was accepted, asked, sent, and so on, and a request's exchanges.
use Rattle.std.specs.Prelude.{ℕ, Bool, false, List, map, filter, zip, Option, Some, None, ◌==◌, filter_map}
use Rattle.arrayvec.specs.ArrayVec.{ArrayVec}
use Rattle.rdm_wire.specs.declared.request.Request.{Request}
use Rattle.rdm_join.specs.declared.event.LineEvent.{LineEvent}
use Rattle.rdm_join.specs.declared.status.Status.{Status}
use Rattle.rdm_join.specs.declared.verdict.Judged.{Judged}
use Rattle.rdm_join.specs.Verdict.{verdict, sent_by}
use Rattle.rdm_join.specs.Result.{Joined, result_of}
use Rattle.rdm_agent.specs.declared.kind.Kind.{Kind}
use Rattle.rdm_agent.specs.declared.fault.AgentFault.{AgentFault}
use Rattle.rdm_log.specs.declared.entry.Owner.{Owner}
use Rattle.rdm_log.specs.declared.entry.Owner.TheVariants as owners
use Rattle.rdm_log.specs.declared.entry.Entry.{Entry}
use Rattle.rdm_log.specs.declared.entry.Entry.TheVariants.{Join, Accept, Ask, Send, Came, Finish, Answer, Collect}

-- a request that was accepted: its client, its number and the request
pub record Accepted : Type 0 where
  pub client : ℕ
  pub number : ℕ
  pub request : Request

-- a discovery that was asked for: its client, its number and its kind
pub record AskedDiscovery : Type 0 where
  pub client : ℕ
  pub number : ℕ
  pub kind : Kind

-- a frame that was sent, for a request or for a run
pub record Sending : Type 0 where
  pub owner : Owner
  pub frame : ArrayVec ℕ

-- a Finish: the request's number, its status, and how many bytes of data it has
pub record Finished : Type 0 where
  pub number : ℕ
  pub status : Status
  pub len : ℕ

-- an Answer: the number of the discovery, the run that answers it, and the fault
pub record Answered : Type 0 where
  pub number : ℕ
  pub run : ℕ
  pub fault : Option AgentFault

-- the places of a Join; nothing of another entry
abbrev pub join_of : Entry → Option ℕ
join_of (Join c places) = Some places
join_of _ = None

-- what an Accept accepts; nothing of another entry
abbrev pub accepted_of : Entry → Option Accepted
accepted_of (Accept c n request) = Some (record { client = c.0; number = n; request = request })
accepted_of _ = None

-- what an Ask asks; nothing of another entry
abbrev pub asked_of : Entry → Option AskedDiscovery
asked_of (Ask c n kind) = Some (record { client = c.0; number = n; kind = kind })
asked_of _ = None

-- what a Send sends; nothing of another entry
abbrev pub sending_of : Entry → Option Sending
sending_of (Send owner frame) = Some (record { owner = owner; frame = frame })
sending_of _ = None

-- the event of a Came; nothing of another entry
abbrev pub came_of : Entry → Option LineEvent
came_of (Came event) = Some event
came_of _ = None

-- what a Finish says; nothing of another entry
abbrev pub finished_of : Entry → Option Finished
finished_of (Finish n status len) = Some (record { number = n; status = status; len = len })
finished_of _ = None

-- what an Answer says; nothing of another entry
abbrev pub answered_of : Entry → Option Answered
answered_of (Answer n run fault) = Some (record { number = n; run = run; fault = fault })
answered_of _ = None

-- the client of a Collect; nothing of another entry
abbrev pub collector_of : Entry → Option ℕ
collector_of (Collect c) = Some c.0
collector_of _ = None

-- the places of the Joins, in order
unfoldable pub joins : List Entry → List ℕ
joins h = filter_map join_of h

-- the Accepts, in order
unfoldable pub accepts : List Entry → List Accepted
accepts h = filter_map accepted_of h

-- the Asks, in order
unfoldable pub asks : List Entry → List AskedDiscovery
asks h = filter_map asked_of h

-- the Sends, in order
unfoldable pub sends : List Entry → List Sending
sends h = filter_map sending_of h

-- the events that came, in order
unfoldable pub cames : List Entry → List LineEvent
cames h = filter_map came_of h

-- the Finishes, in order
unfoldable pub finishes : List Entry → List Finished
finishes h = filter_map finished_of h

-- the Answers, in order
unfoldable pub answers : List Entry → List Answered
answers h = filter_map answered_of h

-- the clients of the Collects, in order
unfoldable pub collectors : List Entry → List ℕ
collectors h = filter_map collector_of h

-- a frame, whose it is, and what came for it
pub record OwnedExchange : Type 0 where
  pub owner : Owner
  pub frame : ArrayVec ℕ
  pub event : LineEvent

-- a Send with an event
abbrev pub traded_of : Sending × LineEvent → OwnedExchange
traded_of e = record { owner = e.0.owner; frame = e.0.frame; event = e.1 }

-- the frames with what came for them, in order: the first Send with the first Came, and so on. A frame whose reply is
-- awaited isn't among them
unfoldable pub traded : List Entry → List OwnedExchange
traded h = map traded_of (zip (sends h) (cames h))

-- a frame with what came for it, without its owner
abbrev pub exchange_of : OwnedExchange → ArrayVec ℕ × LineEvent
exchange_of t = (t.frame, t.event)

-- a log's exchanges with the line, in order: each frame that was sent, with what came for it. A frame whose reply is
-- awaited has no exchange yet
unfoldable pub exchanges : List Entry → List (ArrayVec ℕ × LineEvent)
exchanges h = map exchange_of (traded h)

-- whether a frame was sent for request n
abbrev pub is_request : ℕ → Owner → Bool
is_request n (owners.Request m) = n == m
is_request n (owners.Run r) = false

-- whether a frame was sent for run r
abbrev pub is_run : ℕ → Owner → Bool
is_run r (owners.Request n) = false
is_run r (owners.Run q) = r == q

-- the exchanges of a request, in order
unfoldable pub of_request : ℕ → List Entry → List OwnedExchange
of_request n h = filter (λ t. is_request n t.owner) (traded h)

-- the verdict on an exchange of a request
abbrev pub verdict_on : OwnedExchange → Judged
verdict_on t = verdict (sent_by t.frame.items) t.event

-- the verdicts on the exchanges of a request, in order
unfoldable pub verdicts : ℕ → List Entry → List Judged
verdicts n h = map verdict_on (of_request n h)

-- a request's result, or None if it is open
unfoldable pub result : ℕ → List Entry → Option Joined
result n h = result_of (verdicts n h)
