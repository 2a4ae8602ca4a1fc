-- The lines of a log, and their text.
use Rattle.std.specs.Prelude.{ℕ, ◌-◌, ◌^◌, ◌%◌, Bool, true, false, List, ◌++◌, Option, Some, None, codes, flat_map}
use Rattle.std.specs.Prelude.{length, take}
use Rattle.rdm_wire.specs.Frames.{asked_in}
use Rattle.rdm_wire.specs.Honest.{Asked}
use Rattle.rdm_wire.specs.Honest.Asked.{Other}
use Rattle.rdm_log.specs.declared.entry.Entry.{Entry}
use Rattle.rdm_log.specs.declared.entry.Entry.TheVariants as entries
use Rattle.rdm_log.specs.declared.entry.Owner.{Owner}
use Rattle.rdm_log.specs.declared.entry.Owner.TheVariants as owners
use Rattle.rdm_reports.specs.LogText.{entry_line, exchange_line, number_member}
use Rattle.rdm_reports.specs.OpeningText.{discovery_opening, session_opening}
use Rattle.rdm_findings.specs.declared.line.LogLine.{LogLine}
use Rattle.rdm_findings.specs.declared.line.LogLine.TheVariants.{Discovery, Session, Entered, Exchanged}

-- what ends each line of a log: the brace that closes its object, and a newline
abbrev pub line_end : List ℕ
line_end = codes "}\n"

-- the last member of a line with a time: the microseconds since 1970, in 64 bits
abbrev pub time_member : ℕ → List ℕ
time_member time = number_member (codes "microseconds") (time % 2 ^ 64)

-- this text of a line with a time, if there is one: the time is one more member, before the line's end
abbrev pub with_time : List ℕ → Option ℕ → List ℕ
with_time text None = text
with_time text (Some time) = take (length text - length line_end) text ++ time_member time ++ line_end

-- the text of a line, as --log writes it. Entries and exchanges may also have a time, which openings never have
abbrev pub line_text : LogLine → List ℕ
line_text (Discovery o) = discovery_opening o.value.source o.value.search o.value.kind o.value.known o.value.budget
line_text (Session o) = session_opening o.value.opening o.value.first
line_text (Entered entry time) = with_time (entry_line entry) time
line_text (Exchanged number frame event time) = with_time (exchange_line number (frame, event)) time

-- whether a frame asks something in a discovery: an unmute, a branch or a mute, byte for byte
abbrev pub is_asked : Asked → Bool
is_asked Other = false
is_asked _ = true

-- whether these bytes aren't a frame of a run, or ask something in a discovery
abbrev pub is_asked_by : Owner → List ℕ → Bool
is_asked_by (owners.Run r) bytes = is_asked (asked_in bytes)
is_asked_by _ bytes = true

-- whether the entry has no frame of a run, or one that asks something in a discovery
abbrev pub asks_discovery : Entry → Bool
asks_discovery (entries.Send owner frame) = is_asked_by owner frame.items
asks_discovery _ = true

-- the same of a line
abbrev pub is_sound : LogLine → Bool
is_sound (Entered entry time) = asks_discovery entry
is_sound (Exchanged number frame event time) = is_asked (asked_in frame.items)
is_sound _ = true

-- the text of lines, in order
abbrev pub lines_text : List LogLine → List ℕ
lines_text lines = flat_map line_text lines
