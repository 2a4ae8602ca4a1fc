-- How a finding is printed: its sentence alone on a line, or in an object of JSON with what it is about. No sentence
-- has a character that JSON escapes.
use Rattle.std.specs.Prelude.{ℕ, true, false, List, [], ◌++◌, Option, Some, None, codes, decimal}
use Rattle.rdm_wire.specs.UidText.{uid_text}
use Rattle.rdm_findings.specs.declared.form.About.{About}
use Rattle.rdm_findings.specs.declared.form.Form.{Form}
use Rattle.rdm_findings.specs.declared.form.Form.TheVariants.{Lines, Json}
use Rattle.rdm_findings.specs.declared.form.Judgement.{Judgement}
use Rattle.rdm_findings.specs.declared.form.Judgement.TheVariants as judged

-- the name of a judgement
abbrev pub judgement_name : Judgement → List ℕ
judgement_name judged.Complete = codes "complete"
judgement_name judged.Incomplete = codes "incomplete"
judgement_name judged.Undecided = codes "undecided"
judgement_name judged.NoRun = codes "no run"
judgement_name judged.Gap = codes "gap"
judgement_name judged.Failure = codes "failure"
judgement_name judged.Quiet = codes "quiet"
judgement_name judged.Found = codes "found"
judgement_name judged.Missed = codes "missed"
judgement_name judged.Pending = codes "pending"
judgement_name (judged.Broke found) = codes "broke"
judgement_name judged.Unmuted = codes "unmuted"
judgement_name judged.Gone = codes "gone"
judgement_name judged.Stray = codes "stray"
judgement_name judged.Unexplained = codes "unexplained"
judgement_name judged.Garbled = codes "garbled"
judgement_name judged.Answered = codes "answered"
judgement_name judged.Order = codes "order"
judgement_name judged.Passing = codes "passing"
judgement_name judged.Unjudged = codes "unjudged"

-- about a run as a whole
abbrev pub of_run : Judgement → About
of_run judgement = record { judgement = judgement; uid = None; exchange = None }

-- about the exchange with this number
abbrev pub of_exchange : Judgement → ℕ → About
of_exchange judgement number = record { judgement = judgement; uid = None; exchange = Some number }

-- about a UID
abbrev pub of_uid : Judgement → ℕ → About
of_uid judgement u = record { judgement = judgement; uid = Some u; exchange = None }

-- a key and a UID, if there is one
abbrev pub uid_member : Option ℕ → List ℕ
uid_member None = []
uid_member (Some u) = codes ",\"uid\":\"" ++ uid_text u ++ codes "\""

-- a key and the number of an exchange, if there is one
abbrev pub exchange_member : Option ℕ → List ℕ
exchange_member None = []
exchange_member (Some number) = codes ",\"exchange\":" ++ decimal number

-- whether a device that broke a rule was found, that is, acknowledged a mute
abbrev pub found_member : Judgement → List ℕ
found_member (judged.Broke true) = codes ",\"found\":true"
found_member (judged.Broke false) = codes ",\"found\":false"
found_member _ = []

-- an object up to its sentence
abbrev pub object_start : About → List ℕ
object_start about =
    codes "{\"judgement\":\"" ++ judgement_name about.judgement ++ codes "\""
    ++ (uid_member about.uid ++ exchange_member about.exchange ++ found_member about.judgement)
    ++ codes ",\"sentence\":\""

-- what precedes the sentence of a finding after the first one
abbrev pub before_sentence : Form → About → List ℕ
before_sentence Lines about = []
before_sentence Json about = codes "," ++ object_start about

-- what follows it
abbrev pub after_sentence : Form → List ℕ
after_sentence Lines = codes "\n"
after_sentence Json = codes "\"}"

-- a finding with this sentence, after the first one
abbrev pub finding : Form → About → List ℕ → List ℕ
finding form about sentence = before_sentence form about ++ (sentence ++ after_sentence form)
