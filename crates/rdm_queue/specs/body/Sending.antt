-- What a queue sends next, and how the reply to a run's frame changes it.
use Rattle.std.specs.Prelude.{◌≡◌, ℕ, ◌%◌, ◌+◌, true, false, ◌||◌, List, [], length, Option, Some, None, ◌==◌}
use Rattle.std.specs.Prelude.{if◌then◌else◌, slice_get, is_some, option_map}
use Rattle.std.specs.List.{list_any}
use Rattle.arrayvec.specs.ArrayVec.{ArrayVec}
use Rattle.rdm_wire.specs.Packet.{Packet}
use Rattle.rdm_wire.specs.CommandFrames.{request_fields}
use Rattle.rdm_wire.specs.Devices.{uids_of}
use Rattle.rdm_wire.specs.Frames.{asked_in, heard_in}
use Rattle.rdm_join.specs.Exchange.{bytes_heard}
use Rattle.rdm_join.specs.declared.event.LineEvent.{LineEvent}
use Rattle.rdm_join.specs.declared.verdict.Sent.{Sent}
use Rattle.rdm_agent.specs.Machine.{start_by, fed}
use Rattle.rdm_agent.specs.Calls.{next_op, HasRunBy}
use Rattle.rdm_agent.specs.Run.{asked_by}
use Rattle.rdm_agent.specs.OpFrames.{op_frame}
use Rattle.rdm_agent.specs.declared.kind.Kind.{Kind}
use Rattle.rdm_agent.specs.declared.kind.Kind.TheVariants.{Full, Incremental}
use Rattle.rdm_agent.specs.declared.op.Op.{Op}
use Rattle.rdm_agent.specs.declared.op.Op.TheVariants.{UnmuteAll, Mute, Branch, End}
use Rattle.rdm_log.specs.declared.entry.Owner.{Owner}
use Rattle.rdm_log.specs.declared.entry.Owner.TheVariants as owners
use Rattle.rdm_queue.specs.declared.pending.Awaited.TheVariants as awaiting
use Rattle.rdm_log.specs.log.Entries.{Accepted, AskedDiscovery}
use Rattle.rdm_log.specs.log.Runs.{is_full_kind}
use Rattle.rdm_queue.specs.body.State.{QueueState, RunState}

-- a frame of this request, or of this run's next operation
pub data ToSend : Type 0 where
  OfRequest : Accepted → ToSend
  OfRun : (r : ℕ) (op : Op) → ToSend

-- the oldest request's
abbrev pub request_to_send : QueueState → Option ToSend
request_to_send s = option_map OfRequest (slice_get s.waiting 0)

-- that of the run that has begun, unless its agent has ended
abbrev pub unless_ended : ℕ → Op → Option ToSend
unless_ended r UnmuteAll = Some (OfRun r UnmuteAll)
unless_ended r (Mute u) = Some (OfRun r (Mute u))
unless_ended r (Branch range) = Some (OfRun r (Branch range))
unless_ended r End = None

abbrev pub of_run : Option RunState → Op → Option ToSend
of_run None op = None
of_run (Some r) op = unless_ended r.number op

abbrev pub run_to_send : QueueState → Option ToSend
run_to_send s = of_run s.run (next_op s.agent)

-- a run is full if one of its discoveries is
abbrev pub kind_of : List AskedDiscovery → Kind
kind_of asked = if list_any (λ a. is_full_kind a.kind) asked then Full else Incremental

-- a run has begun for all discoveries that wait
abbrev pub begun : QueueState → QueueState
begun s = record s {
  run = Some (record { number = s.next_run; left = length s.asked });
  next_run = s.next_run + 1;
  agent = start_by s.search (kind_of s.asked) (uids_of s.devices) s.budget;
}

-- a run continues even while sending is paused; a request between two parts precedes a run, and a run other requests
abbrev pub to_send : QueueState → Option ToSend
to_send s =
    if is_some s.awaited || s.closed then None
    else (if is_some s.run then run_to_send s
    else (if s.paused then None
    else (if s.under_way || (length s.asked == 0) then request_to_send s
    else run_to_send (begun s))))

-- the part of a request's frame with which its reply is compared
abbrev pub sent_for : QueueState → Accepted → Sent
sent_for s a = record {
  target = a.request.target;
  source = s.source;
  tn = s.next_tn;
  sub_device = a.request.sub_device;
  class = a.request.class;
  pid = a.request.pid;
}

abbrev pub sends_request : QueueState → Accepted → QueueState
sends_request s a = record s {
  next_tn = (s.next_tn + 1) % 256;
  awaited = Some (awaiting.Request (sent_for s a));
  under_way = true;
}

abbrev pub sends_run : QueueState → QueueState
sends_run s = record s { next_tn = (s.next_tn + 1) % 256; awaited = Some (awaiting.Run s.next_tn) }

-- the oldest request's frame was returned
pub record GivesRequest (old : QueueState) (owner : Owner) (frame : ArrayVec ℕ) (new : QueueState) : Type 0 where
  pub accepted : Accepted
  pub oldest : slice_get old.waiting 0 ≡ Some accepted
  pub owner_is : owner ≡ owners.Request accepted.number
  pub packet : Packet (request_fields accepted.request old.source old.next_tn) frame.items
  pub new_is : new ≡ sends_request old accepted

-- the frame of the run's next operation was returned
pub record GivesRun (old : QueueState) (owner : Owner) (frame : ArrayVec ℕ) (new : QueueState) : Type 0 where
  pub run : RunState
  pub run_is : old.run ≡ Some run
  pub goes_on : next_op old.agent ≡ End → ⊥
  pub owner_is : owner ≡ owners.Run run.number
  pub frame_is : frame.items ≡ op_frame (next_op old.agent) old.source old.next_tn
  pub asks : asked_in frame.items ≡ asked_by (next_op old.agent)
  pub new_is : new ≡ sends_run old

-- the next frame was returned: of the open run, of the request whose turn it is, or of a run that begins
pub record GivesOpen (old : QueueState) (owner : Owner) (frame : ArrayVec ℕ) (new : QueueState) : Type 0 where
  pub gives : GivesRun old owner frame new

pub record GivesTurn (old : QueueState) (owner : Owner) (frame : ArrayVec ℕ) (new : QueueState) : Type 0 where
  pub no_run : old.run ≡ None
  pub not_paused : old.paused ≡ false
  pub turn : (old.under_way || (length old.asked == 0)) ≡ true
  pub gives : GivesRequest old owner frame new

pub record GivesFirst (old : QueueState) (owner : Owner) (frame : ArrayVec ℕ) (new : QueueState) : Type 0 where
  pub no_run : old.run ≡ None
  pub not_paused : old.paused ≡ false
  pub turn : (old.under_way || (length old.asked == 0)) ≡ false
  pub starts : HasRunBy old.search (kind_of old.asked) (uids_of old.devices) old.budget false [] (begun old).agent
  pub gives : GivesRun (begun old) owner frame new

pub data WhichGives (old : QueueState) (owner : Owner) (frame : ArrayVec ℕ) (new : QueueState) : Type 0 where
  Opened : GivesOpen old owner frame new → WhichGives old owner frame new
  Turned : GivesTurn old owner frame new → WhichGives old owner frame new
  Began : GivesFirst old owner frame new → WhichGives old owner frame new

pub record IsGiven (old : QueueState) (owner : Owner) (frame : ArrayVec ℕ) (new : QueueState) : Type 0 where
  pub free : is_some old.awaited ≡ false
  pub not_closed : old.closed ≡ false
  pub which : WhichGives old owner frame new

-- the agent got what came for its next operation, sent with this transaction number
abbrev pub hears_run : ℕ → LineEvent → QueueState → QueueState
hears_run tn event s = record s {
  awaited = None;
  agent = fed s.agent (heard_in (op_frame (next_op s.agent) s.source tn) (bytes_heard event));
}
