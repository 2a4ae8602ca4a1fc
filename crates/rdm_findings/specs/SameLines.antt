-- Lines whose numbers aren't too great for their texts, and lines that say the same.
use Rattle.std.specs.Prelude.{◌≡◌, ℕ, ◌^◌, ◌<◌, List, IfSome, All}
use Rattle.hex.specs.Hex.{IsBytes}
use Rattle.rdm_wire.specs.declared.device.Device.{Device}
use Rattle.rdm_wire.specs.declared.request.Request.{Request}
use Rattle.rdm_join.specs.declared.event.LineEvent.{LineEvent}
use Rattle.rdm_join.specs.declared.event.LineEvent.TheVariants.{Reply, Failed}
use Rattle.rdm_agent.specs.declared.fault.AgentFault.{AgentFault}
use Rattle.rdm_agent.specs.declared.fault.AgentFault.TheVariants.{Corrupt}
use Rattle.rdm_log.specs.log.BrokenKeys.{none_open}
use Rattle.rdm_log.specs.declared.entry.Call.{Call}
use Rattle.rdm_log.specs.declared.entry.Call.TheVariants as calls
use Rattle.rdm_log.specs.declared.entry.Entry.{Entry}
use Rattle.rdm_log.specs.declared.entry.Entry.TheVariants as entries
use Rattle.rdm_log.specs.declared.entry.Opening.{Opening}
use Rattle.rdm_log.specs.declared.entry.Owner.{Owner}
use Rattle.rdm_log.specs.declared.entry.Owner.TheVariants as owners
use Rattle.rdm_findings.specs.declared.line.LogLine.{LogLine}
use Rattle.rdm_findings.specs.declared.line.LogLine.TheVariants.{Discovery, Session, Entered, Exchanged}
use Rattle.rdm_findings.specs.declared.line.SessionOpening.{SessionOpening}

-- A number of at most 64 bits. No field of a line has greater ones; for smaller fields in decimals this suffices
abbrev pub Has64Bits : ℕ → Type 0
Has64Bits n = n < 2 ^ 64

-- a UID's number
abbrev pub Has48Bits : ℕ → Type 0
Has48Bits u = u < 2 ^ 48

-- a request's numbers aren't too great for its text
abbrev pub FitsRequest : Request → Type 0
FitsRequest r = Has48Bits r.target × Has64Bits r.sub_device × (r.pid < 2 ^ 16) × IsBytes r.param.items

-- nor are a call's
abbrev pub FitsCall : Call → Type 0
FitsCall (calls.Join places) = Has64Bits places
FitsCall (calls.Submit request) = FitsRequest request
FitsCall (calls.Discover kind) = Unit {0}

-- nor those of a frame's owner
abbrev pub FitsOwner : Owner → Type 0
FitsOwner (owners.Request number) = Has64Bits number
FitsOwner (owners.Run number) = Has64Bits number

-- nor those of what came
abbrev pub FitsEvent : LineEvent → Type 0
FitsEvent (Reply bytes) = IsBytes bytes.items
FitsEvent Failed = Unit {0}

-- nor those of a run's fault
abbrev pub FitsFault : AgentFault → Type 0
FitsFault (Corrupt u) = Has48Bits u
FitsFault _ = Unit {0}

-- nor an entry's
abbrev pub FitsEntry : Entry → Type 0
FitsEntry (entries.Join client places) = Has64Bits client.0 × Has64Bits places
FitsEntry (entries.Refuse client call cause) = IfSome client (λ c. Has64Bits c.0) × FitsCall call × Has64Bits cause.0
FitsEntry (entries.Accept client number request) = Has64Bits client.0 × Has64Bits number × FitsRequest request
FitsEntry (entries.Ask client number kind) = Has64Bits client.0 × Has64Bits number
FitsEntry (entries.Send owner frame) = FitsOwner owner × IsBytes frame.items
FitsEntry (entries.Came event) = FitsEvent event
FitsEntry (entries.Finish number status len) = Has64Bits number × Has64Bits len
FitsEntry (entries.Answer number run fault) = Has64Bits number × Has64Bits run × IfSome fault FitsFault
FitsEntry (entries.Collect client) = Has64Bits client.0
FitsEntry _ = Unit {0}

-- nor a device's
abbrev pub FitsDevice : Device → Type 0
FitsDevice d = Has48Bits d.uid × (d.control < 2 ^ 16) × IfSome d.binding Has48Bits

-- nor those of a session's opening; its text has none of the answers that broke off before it
abbrev pub FitsOpening : Opening → Type 0
FitsOpening o =
    Has48Bits o.source × Has64Bits o.greatest × Has64Bits o.budget × All Has64Bits o.places.items
    × All FitsDevice o.devices × Has64Bits o.devices_run × Has64Bits o.next_request × Has64Bits o.next_ask
    × Has64Bits o.next_run × Has64Bits o.next_tn

-- Nor are a line's. Each line of a program is so, since its types have no greater numbers
abbrev pub FitsLine : LogLine → Type 0
FitsLine (Discovery o) = Has48Bits o.value.source × All Has48Bits o.value.known × Has64Bits o.value.budget
FitsLine (Session o) = FitsOpening o.value.opening × Has64Bits o.value.first
FitsLine (Entered entry time) = FitsEntry entry × IfSome time Has64Bits
FitsLine (Exchanged number frame event time) =
    Has64Bits number × IsBytes frame.items × FitsEvent event × IfSome time Has64Bits

-- a session's opening, as if no answers had broken off before it: its text doesn't have them
abbrev pub shown : SessionOpening → SessionOpening
shown s = record s { opening = record s.opening { broken = none_open } }

-- The lines say the same: they are the same, but for where in memory an opening is, and for the answers that broke off
-- before a session's
abbrev pub SaySame : LogLine → LogLine → Type 0
SaySame (Discovery o) (Discovery p) = o.value ≡ p.value
SaySame (Session o) (Session p) = shown o.value ≡ shown p.value
SaySame a b = a ≡ b
