-- What a log says about its discovery runs.
use Rattle.std.specs.Prelude.{ℕ, ◌+◌, ◌-◌, Bool, true, false, List, [], length, drop, map, filter, filter_map, fold}
use Rattle.std.specs.Prelude.{Option, Some, None, ◌==◌, if◌then◌else◌}
use Rattle.std.specs.List.{list_any, before_first}
use Rattle.rdm_wire.specs.Devices.{uids_of, device_with}
use Rattle.rdm_wire.specs.declared.device.Device.{Device}
use Rattle.rdm_wire.specs.Honest.{Seen}
use Rattle.rdm_join.specs.Exchange.{seen_event}
use Rattle.rdm_agent.specs.Run.{reported, devices_in}
use Rattle.rdm_agent.specs.declared.kind.Kind.{Kind}
use Rattle.rdm_agent.specs.declared.kind.Kind.TheVariants.{Full, Incremental}
use Rattle.rdm_log.specs.declared.entry.Owner.{Owner}
use Rattle.rdm_log.specs.declared.entry.Owner.TheVariants as owners
use Rattle.rdm_log.specs.declared.entry.Opening.{Opening}
use Rattle.rdm_log.specs.declared.entry.Entry.{Entry}
use Rattle.rdm_log.specs.declared.entry.Entry.TheVariants.{Send}
use Rattle.rdm_log.specs.log.Entries.{AskedDiscovery, Answered, OwnedExchange, asks, answers, sends, traded, is_run}
use Rattle.rdm_log.specs.log.History.{unanswered}

-- the entry is a Send of the run
abbrev pub sends_run : ℕ → Entry → Bool
sends_run r (Send owner frame) = is_run r owner
sends_run r _ = false

-- whether a run has begun, by its first Send
unfoldable pub has_begun : ℕ → List Entry → Bool
has_begun r h = list_any (sends_run r) h

-- the entries before the first Send of a run; all of them if it has none
unfoldable pub entries_before_run : ℕ → List Entry → List Entry
entries_before_run r h = before_first (sends_run r) h

-- this owner's run, or the one before if the owner is a request
abbrev pub run_of_owner : Option ℕ → Owner → Option ℕ
run_of_owner before (owners.Run r) = Some r
run_of_owner before (owners.Request n) = before

-- the run that began last: that of the last Send for a run
unfoldable pub last_run : List Entry → Option ℕ
last_run h = fold (λ before s. run_of_owner before s.owner) None (sends h)

-- the number after that of the last run, or the first number if there was no run
abbrev pub number_after : ℕ → Option ℕ → ℕ
number_after first None = first
number_after first (Some r) = r + 1

-- the number of the next run
abbrev pub next_run : Opening → List Entry → ℕ
next_run o h = number_after o.next_run (last_run h)

-- whether some Answer names the run
abbrev pub is_answered : ℕ → List Entry → Bool
is_answered r h = list_any (λ b. b.run == r) (answers h)

-- this run, unless some Answer names it
abbrev pub unless_answered : Option ℕ → List Entry → Option ℕ
unless_answered None h = None
unless_answered (Some r) h = if is_answered r h then None else Some r

-- the run that is open: the one that began last, unless some Answer names it. In a legal log no other is open
abbrev pub open_run : List Entry → Option ℕ
open_run h = unless_answered (last_run h) h

-- how many discoveries were asked for before the last run began
abbrev pub asked_before : Option ℕ → List Entry → ℕ
asked_before None h = 0
asked_before (Some r) h = length (asks (entries_before_run r h))

-- the Asks without an Answer that came after the last run began: no run serves them yet
abbrev pub unserved : List Entry → List AskedDiscovery
unserved h = drop (asked_before (last_run h) h - length (answers h)) (unanswered h)

-- the Asks that a run serves: those that were unserved when it began
abbrev pub served : ℕ → List Entry → List AskedDiscovery
served r h = if has_begun r h then unserved (entries_before_run r h) else []

-- a frame with what came for it, as an exchange that is asked and heard
abbrev pub seen_of : OwnedExchange → Seen
seen_of t = seen_event (t.frame, t.event)

-- the exchanges of a run, in order, as asked and heard
unfoldable pub run_exchanges : ℕ → List Entry → List Seen
run_exchanges r h = map seen_of (filter (λ t. is_run r t.owner) (traded h))

-- how many frames were sent for a run
abbrev pub run_frames : ℕ → List Entry → ℕ
run_frames r h = length (filter (λ s. is_run r s.owner) (sends h))

-- the devices that exchanges report, each as the first acknowledgement of its mute describes it
abbrev pub reported_devices : List Seen → List Device
reported_devices x = filter_map (device_with (devices_in x)) (reported x)

-- the devices that the exchanges of a run report
abbrev pub run_devices : ℕ → List Entry → List Device
run_devices r h = reported_devices (run_exchanges r h)

-- the devices of an Answer that names run r; none for run 0, which isn't a run
abbrev pub answer_devices : ℕ → List Entry → List Device
answer_devices r h = if r == 0 then [] else run_devices r h

-- this Answer's run if it has no fault, or else the one before
abbrev pub if_without_fault : Option ℕ → Answered → Option ℕ
if_without_fault before b = elim b.fault [ None ↦ Some b.run | Some fault ↦ before ]

-- the run of the last Answer without fault
abbrev pub last_run_without_fault : List Entry → Option ℕ
last_run_without_fault h = fold if_without_fault None (answers h)

-- the devices of this run, or the first ones if there is no run
abbrev pub devices_of : List Device → Option ℕ → List Entry → List Device
devices_of first None h = first
devices_of first (Some r) h = run_devices r h

-- the known devices, which the call `devices` lends: those of the last run without fault, or else the opening's
abbrev pub known_devices : Opening → List Entry → List Device
known_devices o h = devices_of o.devices (last_run_without_fault h) h

-- this run, or the first one if there is no run
abbrev pub run_or : ℕ → Option ℕ → ℕ
run_or first None = first
run_or first (Some r) = r

-- the run that found the known devices, or else the opening's
abbrev pub devices_run : Opening → List Entry → ℕ
devices_run o h = run_or o.devices_run (last_run_without_fault h)

-- whether a discovery is a full one
abbrev pub is_full_kind : Kind → Bool
is_full_kind Full = true
is_full_kind Incremental = false

-- the kind of a run: full if one of the discoveries that it serves is, else incremental
abbrev pub run_kind : ℕ → List Entry → Kind
run_kind r h = if list_any (λ a. is_full_kind a.kind) (served r h) then Full else Incremental

-- the UIDs that an incremental run starts from: those known when it began
abbrev pub known_at_run : Opening → ℕ → List Entry → List ℕ
known_at_run o r h = uids_of (known_devices o (entries_before_run r h))
