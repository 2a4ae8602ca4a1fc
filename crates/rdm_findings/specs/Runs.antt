-- The runs that a log's lines have.
use Rattle.std.specs.Prelude.{ℕ, ◌+◌, Bool, true, false, ◌&&◌, ◌||◌, not, ◌==◌, List, [], ◌∷◌, ◌++◌, Option, Some, None}
use Rattle.std.specs.Prelude.{fold, length, bytes_eq, is_some, nat_le, if◌then◌else◌}
use Rattle.arrayvec.specs.ArrayVec.{ArrayVec}
use Rattle.rdm_wire.specs.Devices.{uids_of}
use Rattle.rdm_wire.specs.Honest.{Seen}
use Rattle.rdm_join.specs.Exchange.{seen_event}
use Rattle.rdm_join.specs.declared.event.LineEvent.{LineEvent}
use Rattle.rdm_agent.specs.declared.fault.AgentFault.{AgentFault}
use Rattle.rdm_agent.specs.declared.kind.Kind.{Kind}
use Rattle.rdm_agent.specs.declared.kind.Kind.TheVariants.{Full, Incremental}
use Rattle.rdm_agent.specs.declared.search.Search.{Search}
use Rattle.rdm_agent.specs.declared.search.Search.TheVariants.{Steady, Quick}
use Rattle.rdm_log.specs.declared.entry.Entry.{Entry}
use Rattle.rdm_log.specs.declared.entry.Entry.TheVariants as entries
use Rattle.rdm_log.specs.declared.entry.Owner.{Owner}
use Rattle.rdm_log.specs.declared.entry.Owner.TheVariants as owners
use Rattle.rdm_explain.specs.Reported.{reported_in}
use Rattle.rdm_findings.specs.declared.asks.Asks.{Asks}
use Rattle.rdm_findings.specs.declared.head.RunHead.{RunHead}
use Rattle.rdm_findings.specs.declared.head.Start.{Start}
use Rattle.rdm_findings.specs.declared.head.Start.TheVariants.{At, Later, Unknown}
use Rattle.rdm_findings.specs.declared.line.DiscoveryOpening.{DiscoveryOpening}
use Rattle.rdm_findings.specs.declared.line.LogLine.{LogLine}
use Rattle.rdm_findings.specs.declared.line.LogLine.TheVariants.{Discovery, Session, Entered, Exchanged}
use Rattle.rdm_findings.specs.Asked.{no_asks, asks_from, is_answered, start_of, kind_of_run, after_ask, after_answer}
use Rattle.rdm_findings.specs.Asked.{after_run}
use Rattle.rdm_findings.specs.Flaws.{first_flaw}
use Rattle.rdm_findings.specs.Starts.{has_start}

-- what the log has of a run: what is known of it, the UIDs that were known before it, if the log has them, and its
-- exchanges
pub record RunRead : Type 0 where
  pub head : RunHead
  pub known : Option (List ℕ)
  pub exchanges : List Seen

-- What was read so far. `run` is what is known of the run in progress, or would be known of the next one. `has_run`
-- says whether one has begun, and `reopened` whether an opening like its own came after it. `sent` is its frame whose
-- answer is awaited. In a session's log, `asks` has what it shows of discoveries.
pub record ReadState : Type 0 where
  pub run : RunRead
  pub has_run : Bool
  pub reopened : Bool
  pub is_session : Bool
  pub asks : Asks
  pub sent : Option (ArrayVec ℕ)

-- a run of which this is known, before its first exchange
abbrev pub run_of : Option ℕ → Option Kind → Option Search → Start → Option ℕ → Option (List ℕ) → RunRead
run_of number kind search start budget known = record {
  head = record {
    number = number;
    kind = kind;
    search = search;
    start = start;
    budget = budget;
    fault = None;
    flaw = None;
  };
  known = known;
  exchanges = [];
}

-- a log begins: of a session or of a discovery. This is known of its next run
abbrev pub awaiting : Bool → Option Kind → Option Search → Option ℕ → Option (List ℕ) → Asks → ReadState
awaiting is_session kind search budget known asks = record {
  run = run_of None kind search Unknown budget known;
  has_run = false;
  reopened = false;
  is_session = is_session;
  asks = asks;
  sent = None;
}

-- a log begins without an opening
abbrev pub unopened : Bool → ReadState
unopened is_session = awaiting is_session None None None None no_asks

-- before the first line
abbrev pub nothing_read : ReadState
nothing_read = unopened false

-- whether this is the number
abbrev pub is_number : ℕ → Option ℕ → Bool
is_number r None = false
is_number r (Some n) = r == n

-- whether the run of a session with this number is in progress: its end isn't known
abbrev pub is_in_progress : ℕ → ReadState → Bool
is_in_progress r s = (s.has_run && is_number r s.run.head.number) && not (is_some s.run.head.fault)

-- whether this isn't above the number
abbrev pub is_not_above : ℕ → Option ℕ → Bool
is_not_above r None = false
is_not_above r (Some n) = nat_le r n

-- whether a run with this number that begins now is another session's: each run of a session has a higher number than
-- those before it
abbrev pub is_anothers : ℕ → ReadState → Bool
is_anothers r s = s.has_run && is_not_above r s.run.head.number

-- whether the run in progress, if there is one, ended before this entry: another run begins
abbrev pub begins_run : Entry → ReadState → Bool
begins_run (entries.Send (owners.Run r) frame) s = not (is_in_progress r s)
begins_run _ s = false

-- whether this entry begins the log of another session, without an opening: it asks for a discovery that was answered
abbrev pub begins_log : Entry → ReadState → Bool
begins_log (entries.Ask client number kind) s = is_answered number s.asks.answered
begins_log _ s = false

-- whether this is the number of a discovery's next exchange, after so many of which the first has this number
abbrev pub is_next : ℕ → ℕ → Start → Bool
is_next number many (At first) = first + many == number
is_next number many Later = false
is_next number many Unknown = false

-- whether the exchange of a discovery with this number continues the one in progress
abbrev pub continues : ℕ → ReadState → Bool
continues number s =
    (s.has_run && not s.is_session) && is_next number (length s.run.exchanges) s.run.head.start

-- whether this is the kind of a run
abbrev pub is_kind : Kind → Option Kind → Bool
is_kind Full (Some Full) = true
is_kind Incremental (Some Incremental) = true
is_kind kind _ = false

-- whether a run searches like this
abbrev pub is_search : Search → Option Search → Bool
is_search Steady (Some Steady) = true
is_search Quick (Some Quick) = true
is_search search _ = false

-- whether these are the UIDs that were known before a run
abbrev pub is_known : List ℕ → Option (List ℕ) → Bool
is_known us None = false
is_known us (Some known) = bytes_eq us known

-- whether an opening says the same of a run as its own
abbrev pub is_like : DiscoveryOpening → RunRead → Bool
is_like o run =
    (is_kind o.kind run.head.kind && is_search o.search run.head.search)
    && (is_number o.budget run.head.budget && is_known o.known run.known)

-- whether an opening may be that of the next part of the discovery in progress: a long run may be written in parts,
-- each with its opening. It is, if the next exchange continues the discovery
abbrev pub reopens : DiscoveryOpening → ReadState → Bool
reopens o s = (s.has_run && not s.is_session) && is_like o s.run

-- whether the run in progress, if there is one, ended before this line
abbrev pub begins : LogLine → ReadState → Bool
begins (Discovery o) s = not (reopens o.value s)
begins (Session o) s = true
begins (Entered entry time) s = (not s.is_session || begins_log entry s) || begins_run entry s
begins (Exchanged number frame event time) s = not (continues number s)

-- the run that ended
abbrev pub ended : ReadState → List RunRead
ended s = if s.has_run then s.run ∷ [] else []

-- the UIDs that a run without a fault reports, if the log has all of the run
abbrev pub uids_reported : RunRead → Option (List ℕ)
uids_reported run = if has_start run.head.start then Some (uids_of (reported_in run.exchanges)) else None

-- the UIDs that are known after a run that ended like this: those that it reports, or with a fault those before it
abbrev pub known_by : RunRead → Option (Option AgentFault) → Option (List ℕ)
known_by run None = None
known_by run (Some None) = uids_reported run
known_by run (Some (Some fault)) = run.known

-- the UIDs that are known when the next run of a session begins, if the log has them
abbrev pub known_after : ReadState → Option (List ℕ)
known_after s = if s.has_run then known_by s.run s.run.head.fault else s.run.known

-- with these known UIDs
abbrev pub with_known : Option (List ℕ) → ReadState → ReadState
with_known known s = record s { run = record s.run { known = known } }

-- a run of a session begins, or the log begins within it
abbrev pub begun : ℕ → ReadState → ReadState
begun r s = record {
  run = run_of (Some r) (kind_of_run r s.asks) s.run.head.search (start_of r s.asks) s.run.head.budget (known_after s);
  has_run = true;
  reopened = false;
  is_session = s.is_session;
  asks = after_run r s.asks;
  sent = None;
}

-- a discovery of which this is known begins with this exchange
abbrev pub started : ℕ → ReadState → ReadState
started number s = record s {
  run = record s.run { head = record s.run.head { start = At number } };
  has_run = true;
}

-- what an opening says that came after a run which is like it
abbrev pub opened_again : ReadState → ReadState
opened_again s = awaiting false s.run.head.kind s.run.head.search s.run.head.budget s.run.known no_asks

-- what is known of a discovery that begins: an opening is that of one
abbrev pub before_discovery : ReadState → ReadState
before_discovery s =
    if s.reopened then opened_again s else (if s.is_session || s.has_run then nothing_read else s)

-- a discovery begins with the exchange of this number
abbrev pub discovered : ℕ → ReadState → ReadState
discovered number s = started number (before_discovery s)

-- after the opening of a discovery
abbrev pub after_opening : DiscoveryOpening → ReadState → ReadState
after_opening o s =
    if reopens o s then record s { reopened = true }
    else awaiting false (Some o.kind) (Some o.search) (Some o.budget) (Some o.known) no_asks

-- with another exchange
abbrev pub with_exchange : ArrayVec ℕ → LineEvent → ReadState → ReadState
with_exchange frame event s = record s {
  run = record s.run {
    head = record s.run.head { flaw = first_flaw s.run.head.flaw frame event };
    exchanges = s.run.exchanges ++ seen_event (frame, event) ∷ [];
  };
  reopened = false;
  sent = None;
}

-- after what the line answered
abbrev pub after_event : Option (ArrayVec ℕ) → LineEvent → ReadState → ReadState
after_event None event s = s
after_event (Some frame) event s = with_exchange frame event s

-- the run's end is known
abbrev pub with_end : Option AgentFault → ReadState → ReadState
with_end fault s = record s { run = record s.run { head = record s.run.head { fault = Some fault } } }

-- whether a run that ended like this, and of which the log has no frame, replaced the known UIDs
abbrev pub replaces_known : Option AgentFault → ReadState → Bool
replaces_known fault s = not s.has_run && not (is_some fault)

-- a run ended that isn't the one in progress. If it replaced the known UIDs, the log doesn't have the new ones
abbrev pub with_other_end : Option AgentFault → ReadState → ReadState
with_other_end fault s = if replaces_known fault s then with_known None s else s

-- after the end of a run
abbrev pub after_end : ℕ → Option AgentFault → ReadState → ReadState
after_end r fault s = if is_in_progress r s then with_end fault s else with_other_end fault s

-- a run of a session begins, or that of another one, of which nothing else is known
abbrev pub begun_by : ℕ → ReadState → ReadState
begun_by r s = begun r (if is_anothers r s then unopened true else s)

-- after a frame of this owner
abbrev pub after_send : Owner → ArrayVec ℕ → ReadState → ReadState
after_send (owners.Request n) frame s = record s { sent = None }
after_send (owners.Run r) frame s =
    record (if is_in_progress r s then s else begun_by r s) { sent = Some frame }

-- with what the log shows of discoveries
abbrev pub with_asks : Asks → ReadState → ReadState
with_asks asks s = record s { asks = asks }

-- after an entry
abbrev pub after_entry : Entry → ReadState → ReadState
after_entry (entries.Send owner frame) s = after_send owner frame s
after_entry (entries.Came event) s = after_event s.sent event s
after_entry (entries.Ask client number kind) s = with_asks (after_ask number kind s.asks) s
after_entry (entries.Answer number r fault) s =
    with_asks (after_answer number r s.asks) (after_end r fault s)
after_entry _ s = s

-- after a line
abbrev pub after_line : LogLine → ReadState → ReadState
after_line (Discovery o) s = after_opening o.value s
after_line (Session o) s =
    awaiting true None (Some o.value.opening.search) (Some o.value.opening.budget)
    (Some (uids_of o.value.opening.devices)) (asks_from o.value.opening.next_ask o.value.opening.next_run)
after_line (Entered entry time) s =
    after_entry entry (if not s.is_session || begins_log entry s then unopened true else s)
after_line (Exchanged number frame event time) s =
    with_exchange frame event (if continues number s then s else discovered number s)

-- the runs that ended, and what was read since, after another line
abbrev pub read_on : List RunRead × ReadState → LogLine → List RunRead × ReadState
read_on p line = (p.0 ++ (if begins line p.1 then ended p.1 else []), after_line line p.1)

-- the runs that ended, and what was read since, after all these lines
abbrev pub read_all : List LogLine → List RunRead × ReadState
read_all lines = fold read_on ([], nothing_read) lines

-- the runs of a log, in order
abbrev pub runs_of : List LogLine → List RunRead
runs_of lines = (read_all lines).0 ++ ended (read_all lines).1
