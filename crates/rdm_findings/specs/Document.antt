-- What is printed around the runs of a log: in JSON they are a list in one object.
use Rattle.std.specs.Prelude.{ℕ, Bool, List, ◌++◌, codes, decimal, drop, flat_map, if◌then◌else◌}
use Rattle.rdm_findings.specs.declared.form.Form.{Form}
use Rattle.rdm_findings.specs.declared.form.Form.TheVariants.{Lines, Json}
use Rattle.rdm_findings.specs.declared.form.Judgement.TheVariants as judged
use Rattle.rdm_findings.specs.declared.log.LogFault.{LogFault}
use Rattle.rdm_findings.specs.declared.log.LogFault.TheVariants.{Unread, Line, Unwritten, NoMemory}
use Rattle.rdm_findings.specs.FindingText.{uid_finding}

-- the finding about a device that comes or leaves
abbrev pub passing_finding : Form → ℕ → List ℕ
passing_finding form u =
    uid_finding form judged.Passing u
    (codes " can't be judged: it comes or leaves, and may have been absent when it was asked")

-- what precedes the first run: the devices that come or leave. In JSON a comma precedes each but the first
abbrev pub document_start : Form → List ℕ → List ℕ
document_start Lines passing = flat_map (passing_finding Lines) passing
document_start Json passing =
    codes "{\"passing\":[" ++ drop 1 (flat_map (passing_finding Json) passing) ++ codes "],\"runs\":["

-- what follows the last run. The flag says whether a rule was broken in any
abbrev pub document_end : Form → Bool → List ℕ
document_end Lines broken = codes ""
document_end Json broken = if broken then codes "],\"broken\":true}\n" else codes "],\"broken\":false}\n"

-- why a log isn't explained to its end. Where the writer has failed, nothing says so
abbrev pub stop_name : LogFault → List ℕ
stop_name (Unread kind) = codes "file"
stop_name (Line n) = codes "line " ++ decimal n
stop_name (Unwritten kind) = codes "output"
stop_name NoMemory = codes "memory"

-- what precedes a fault's name
abbrev pub before_fault : Form → List ℕ
before_fault Lines = codes "fault: "
before_fault Json = codes "],\"fault\":\""

-- what follows it
abbrev pub after_fault : Form → List ℕ
after_fault Lines = codes "\n"
after_fault Json = codes "\"}\n"

-- what follows the last run that was explained, if others may be missing
abbrev pub document_stop : Form → LogFault → List ℕ
document_stop form fault = before_fault form ++ stop_name fault ++ after_fault form
