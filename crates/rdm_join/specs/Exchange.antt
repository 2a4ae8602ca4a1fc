-- An exchange of a frame and an event.
use Rattle.std.specs.Prelude.{ℕ, List, Option, Some, None, Result, Ok, Err}
use Rattle.arrayvec.specs.ArrayVec.{ArrayVec}
use Rattle.rdm_wire.specs.Honest.{Seen}
use Rattle.rdm_wire.specs.Frames.{seen_exchange}
use Rattle.rdm_join.specs.declared.event.LineEvent.{LineEvent}
use Rattle.rdm_join.specs.declared.event.LineFault.{LineFault}
use Rattle.rdm_join.specs.declared.event.LineEvent.TheVariants.{Reply, Failed}

-- the event that an exchange's result reports
abbrev pub event_of : Result (ArrayVec ℕ) LineFault → LineEvent
event_of (Ok reply) = Reply reply
event_of (Err fault) = Failed

-- the bytes that came, if the line didn't fail
abbrev pub bytes_heard : LineEvent → Option (List ℕ)
bytes_heard Failed = None
bytes_heard (Reply bytes) = Some bytes.items

-- the exchange of a frame and its event: what was asked, and what was heard
abbrev pub seen_event : ArrayVec ℕ × LineEvent → Seen
seen_event e = seen_exchange e.0.items (bytes_heard e.1)
