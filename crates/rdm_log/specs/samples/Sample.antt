-- A log to compute with: a join, a request, its frame, silence, its Finish, a Collect, a Close.
use Rattle.std.specs.Prelude.{ℕ, List, [], ◌∷◌, ◌++◌, false, true, Some, None, Ok}
use Rattle.std.specs.Global.{Vec}
use Rattle.rdm_wire.specs.declared.request.Request.{Request}
use Rattle.rdm_wire.specs.declared.request.ReqClass.TheVariants as requests
use Rattle.rdm_join.specs.declared.status.Status.TheVariants.{Timeout}
use Rattle.rdm_join.specs.declared.event.LineEvent.TheVariants.{Reply}
use Rattle.rdm_agent.specs.declared.search.Search.TheVariants.{Steady}
use Rattle.rdm_log.specs.declared.entry.Opening.{Opening}
use Rattle.rdm_log.specs.declared.entry.Owner.TheVariants as owners
use Rattle.rdm_log.specs.declared.entry.Entry.{Entry}
use Rattle.rdm_log.specs.declared.entry.Entry.TheVariants.{Join, Accept, Send, Came, Finish, Collect, Close}
use Rattle.rdm_log.specs.declared.outcome.BoxedOutcome.TheVariants as boxed
use Rattle.rdm_log.specs.declared.event.Event.{Event}
use Rattle.rdm_log.specs.declared.event.Event.TheVariants as events
use Rattle.rdm_log.specs.declared.event.Answer.{Answer}
use Rattle.rdm_log.specs.declared.event.Answer.TheVariants as answers
use Rattle.rdm_log.specs.log.BrokenKeys.{none_open}
use Rattle.rdm_log.specs.log.LogState.{LogState}

-- a GET of PID 0060, asked once, answered by silence
abbrev pub sample_request : Request
sample_request =
    record { target = 0x123400000001; sub_device = 0; class = requests.Get; pid = 0x60; param = record { items = [] } }

-- the opening of the sample logs: queue depth 1 in all, and nothing in the queue
abbrev pub sample_opening : Opening
sample_opening = record {
  source = 0x7a7000000100;
  greatest = 1;
  budget = 96008;
  search = Steady;
  places = record { items = [] };
  paused = false;
  closed = false;
  devices = [];
  devices_run = 0;
  broken = none_open;
  next_request = 0;
  next_ask = 0;
  next_run = 1;
  next_tn = 0;
}

-- the packet of that request with transaction number 0
abbrev pub sample_frame : List ℕ
sample_frame =
    0xcc ∷ 0x01 ∷ 0x18 ∷ 0x12 ∷ 0x34 ∷ 0 ∷ 0 ∷ 0 ∷ 1 ∷ 0x7a ∷ 0x70 ∷ 0 ∷ 0 ∷ 1 ∷ 0 ∷ 0 ∷ 1 ∷ 0 ∷ 0 ∷ 0 ∷ 0x20 ∷ 0
    ∷ 0x60 ∷ 0 ∷ 0x02 ∷ 0x98 ∷ []

-- a client joins with queue depth 1
abbrev pub join_only : List Entry
join_only = Join (record { 0 = 0 }) 1 ∷ []

-- then its request is accepted
abbrev pub accepted_one : List Entry
accepted_one = join_only ++ Accept (record { 0 = 0 }) 0 sample_request ∷ []

-- then the frame is sent
abbrev pub sent_one : List Entry
sent_one = accepted_one ++ Send (owners.Request 0) (record { items = sample_frame }) ∷ []

-- then silence comes
abbrev pub came_one : List Entry
came_one = sent_one ++ Came (Reply (record { items = [] })) ∷ []

-- then the request is finished with Timeout
abbrev pub finished_one : List Entry
finished_one = came_one ++ Finish 0 Timeout 0 ∷ []

-- then the client collects
abbrev pub collected_one : List Entry
collected_one = finished_one ++ Collect (record { 0 = 0 }) ∷ []

-- then the queue is closed
abbrev pub closed_log : List Entry
closed_log = collected_one ++ Close ∷ []

-- two requests of one client are accepted
abbrev pub accepted_two : List Entry
accepted_two =
    Join (record { 0 = 0 }) 2 ∷ Accept (record { 0 = 0 }) 0 sample_request
    ∷ Accept (record { 0 = 0 }) 1 sample_request ∷ []

-- then the queue is closed with no reply awaited
abbrev pub closed_two : List Entry
closed_two = accepted_two ++ Close ∷ []

-- a session that kept this log, with capacity for eleven entries
abbrev pub logged_with : List Entry → LogState
logged_with h = record { opening = sample_opening; entries = h; room = 11; gone = 0; keeps = true }

-- the calls of closed_log, and their answers
abbrev pub sample_events : List Event
sample_events =
    events.Join 1 ∷ events.Submit (record { 0 = 0 }) sample_request ∷ events.Take
    ∷ events.Deliver (Reply (record { items = [] }))
    ∷ events.Collect (record { 0 = 0 }) ∷ events.Close ∷ []

-- the answers to these events, in order: client 0 joined; request 0 was accepted; its frame; the event was heard; the
-- outcome of request 0, which ended with Timeout and has no reply, and these bytes; the close
abbrev pub sample_answers : Vec ℕ → List Answer
sample_answers none =
    answers.Join (Ok (record { 0 = 0 })) ∷ answers.Submit (Ok 0)
    ∷ answers.Take (Ok (Some (record { items = sample_frame }))) ∷ answers.Deliver (Ok tt)
    ∷ answers.Collect (Ok (Some (boxed.Request 0 (record { status = Timeout; reply = None; bytes = none }))))
    ∷ answers.Close ∷ []
