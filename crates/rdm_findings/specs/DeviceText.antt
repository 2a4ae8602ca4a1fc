-- The lines of a run about devices: those that are listed, the one that didn't mute, and the known ones that are gone.
use Rattle.std.specs.Prelude.{ℕ, Bool, true, false, ◌&&◌, ◌||◌, not, List, [], ◌++◌, Option, Some, None, codes, decimal}
use Rattle.std.specs.Prelude.{◌==◌, if◌then◌else◌, is_some, nat_lt}
use Rattle.std.specs.List.{list_any}
use Rattle.rdm_wire.specs.UidText.{uid_text}
use Rattle.rdm_explain.specs.declared.exchange.Exchange.{Exchange}
use Rattle.rdm_explain.specs.declared.rule.Rule.{Rule}
use Rattle.rdm_explain.specs.declared.rule.Rule.TheVariants.{SilentBranches, SilentMutes, GarbledMute}
use Rattle.rdm_explain.specs.declared.rule.Breach.{Breach}
use Rattle.rdm_explain.specs.declared.rule.DeviceFinding.{DeviceFinding}
use Rattle.rdm_findings.specs.declared.form.About.{About}
use Rattle.rdm_findings.specs.declared.form.Form.{Form}
use Rattle.rdm_findings.specs.declared.form.Judgement.{Judgement}
use Rattle.rdm_findings.specs.declared.form.Judgement.TheVariants as judged
use Rattle.rdm_findings.specs.declared.head.Start.{Start}
use Rattle.rdm_findings.specs.declared.heard.RunUids.{RunUids}
use Rattle.rdm_findings.specs.declared.mention.Mention.{Mention}
use Rattle.rdm_findings.specs.declared.mention.RunFacts.{RunFacts}
use Rattle.rdm_findings.specs.declared.misread.Misreads.{Misreads}
use Rattle.rdm_findings.specs.BadAnswers.{is_stubborn}
use Rattle.rdm_findings.specs.Ends.{is_garbled_mute}
use Rattle.rdm_findings.specs.FindingText.{exchange_name, uid_finding}
use Rattle.rdm_findings.specs.Forms.{finding}
use Rattle.rdm_findings.specs.HeardUids.{in_uids}
use Rattle.rdm_findings.specs.Mentions.{misread_in}
use Rattle.rdm_findings.specs.Starts.{has_start, number_at}

-- five silences in a row, before the last one. The flags say that the device was heard in the exchanges that the log
-- has, or bytes came when it alone was asked, and that the log has all of the run. Only then it was never heard
abbrev pub silent_before : (heard whole : Bool) → List ℕ
silent_before heard whole =
    if whole && not heard then codes " was never heard (exchange " else codes " didn't answer (exchange "

-- the same of five mutes in a row without an answer
abbrev pub mutes_before : (heard whole : Bool) → List ℕ
mutes_before heard whole =
    if whole && not heard then codes " was never heard (exchange " else codes " didn't mute (exchange "

-- a breach, before the exchange that shows it
abbrev pub breach_before : (heard whole : Bool) → Rule → List ℕ
breach_before heard whole SilentBranches = silent_before heard whole
breach_before heard whole SilentMutes = mutes_before heard whole
breach_before heard whole GarbledMute = codes " didn't acknowledge a mute (exchange "

-- and after it
abbrev pub breach_after : Rule → List ℕ
breach_after SilentBranches = codes " is the fifth silence in a row in a range that holds it)"
breach_after SilentMutes = codes " is the fifth mute of it in a row without an answer)"
breach_after GarbledMute = codes " has other bytes: a rule was broken, by it, another device or noise)"

-- a device that followed the rules. `whole` says that the log has all of the run
abbrev pub followed_text : Bool → List ℕ
followed_text whole =
    if whole then codes " followed the rules" else codes " followed the rules in the exchanges that the log has"

-- until when it did, if an exchange failed: what follows is never judged
abbrev pub until_text : Start → Option ℕ → List ℕ
until_text start None = []
until_text start (Some at) = codes " until exchange " ++ decimal (number_at start at) ++ codes " failed"

-- a device that acknowledged a mute, and broke no rule
abbrev pub found_text : RunFacts → List ℕ
found_text r = codes " was found, and" ++ (followed_text r.whole ++ until_text r.start r.failure)

-- why a run was over: an exchange failed, or it ended
abbrev pub over_text : Start → Option ℕ → List ℕ
over_text start None = codes "the run ended"
over_text start (Some at) = exchange_name (number_at start at) ++ codes " failed"

-- a device that acknowledged no mute, in a log that doesn't have all of the run. With the run's beginning, it would
-- show such an acknowledgement. This comes before what it did
abbrev pub yet_text : Bool → List ℕ
yet_text begun = if begun then codes " wasn't found yet; it" else []

-- The same before an exchange that leaves a doubt
abbrev pub yet_doubt : Bool → List ℕ
yet_doubt begun = if begun then codes " wasn't found yet; " else codes ": "

-- a device that acknowledged no mute. In a run that is over, it may still be there: five silences in a row would have
-- broken a rule
abbrev pub missed_text : RunFacts → List ℕ
missed_text r =
    codes " wasn't found: " ++ over_text r.start r.failure ++ codes " before it was clear whether it is there; "

-- that such a device broke no rule
abbrev pub calm_text : RunFacts → List ℕ
calm_text r =
    if r.whole then missed_text r ++ codes "it broke no rule until then"
    else yet_text (has_start r.start) ++ (followed_text false ++ until_text r.start r.failure)

-- a device that broke no rule. The flag says that it acknowledged a mute
abbrev pub unbroken_text : RunFacts → Bool → List ℕ
unbroken_text r acked = if acked then found_text r else calm_text r

-- what comes before a doubt of a device that acknowledged no mute
abbrev pub unfound_doubt : RunFacts → List ℕ
unfound_doubt r = if r.whole then missed_text r else yet_doubt (has_start r.start)

-- what comes before a doubt of a device
abbrev pub before_doubt : RunFacts → Bool → List ℕ
before_doubt r acked = if acked then codes " was found; " else unfound_doubt r

-- The doubt: an exchange in which its UID was asked alone, or was read, and an answer that no device was due to give
-- there. Another one may have sent that, with its UID or without
abbrev pub doubt_text : ℕ → List ℕ
doubt_text number = exchange_name number ++ codes " has its UID and an answer that wasn't due, perhaps another device's"

-- a device whose log doesn't show that it broke a rule; but the exchange with this number, if there is one, leaves a
-- doubt
abbrev pub innocent_text : RunFacts → Bool → Option ℕ → List ℕ
innocent_text r acked None = unbroken_text r acked
innocent_text r acked (Some number) = before_doubt r acked ++ doubt_text number

-- the number of an exchange of a line, if that line names the device
abbrev pub mentioned : Option Mention → ℕ → Option ℕ
mentioned None u = None
mentioned (Some m) u = if (m.uid == u) || (m.other == u) then Some m.number else None

-- the first number, or else the second
abbrev pub first_number : Option ℕ → Option ℕ → Option ℕ
first_number None second = second
first_number (Some n) second = Some n

-- whether an exchange comes before the one that failed
abbrev pub is_before : Option ℕ → ℕ → Bool
is_before None at = true
is_before (Some failure) at = nat_lt at failure

-- the number of the exchange at this index, if no exchange failed before it
abbrev pub number_before : RunFacts → Option ℕ → Option ℕ
number_before r None = None
number_before r (Some at) = if is_before r.failure at then Some (number_at r.start at) else None

-- The first exchange in which other bytes than its text answered a branch of u alone. The line about bytes that no
-- honest line allows counts all such exchanges, and names the first
abbrev pub misread_at : RunFacts → Misreads → ℕ → Option ℕ
misread_at r misreads u = if is_some r.garbled then number_before r (misread_in misreads u) else None

-- the exchange at which a line about bytes names the device: that of the bytes that no honest line allows, or one that
-- this line counts, or else that of bytes that nobody was due to send
abbrev pub seen_at : RunFacts → Misreads → ℕ → Option ℕ
seen_at r misreads u =
    first_number (mentioned r.garbled u) (first_number (misread_at r misreads u) (mentioned r.stray u))

-- that a device was found, before the rule that it broke. The flag says that it acknowledged a mute
abbrev pub but_text : Bool → List ℕ
but_text acked = if acked then codes " was found, but" else []

-- the rule that a device broke first, and where. The flag says that it was heard in the run
abbrev pub breach_text : RunFacts → (heard : Bool) → Breach → List ℕ
breach_text r heard b = breach_before heard r.whole b.rule ++ decimal (number_at r.start b.at) ++ breach_after b.rule

-- Whether a device was found, and which rule it broke first, if any. The flags say that it was heard in the run, and
-- that it acknowledged a mute. The number is that of an exchange that leaves a doubt
abbrev pub verdict_text : RunFacts → Bool → Bool → Option ℕ → Option Breach → List ℕ
verdict_text r heard acked see None = innocent_text r acked see
verdict_text r heard acked see (Some b) = but_text acked ++ breach_text r heard b

-- whether a device that broke no rule was found. The flag says that it acknowledged a mute
abbrev pub unbroken_judgement : RunFacts → Bool → Judgement
unbroken_judgement r acked = if acked then judged.Found else (if r.whole then judged.Missed else judged.Pending)

-- whether a device broke a rule, and whether it was found
abbrev pub device_judgement : RunFacts → Bool → Option Breach → Judgement
device_judgement r acked None = unbroken_judgement r acked
device_judgement r acked (Some b) = judged.Broke acked

-- the exchange that its sentence names
abbrev pub device_exchange : RunFacts → Option ℕ → Option Breach → Option ℕ
device_exchange r see None = see
device_exchange r see (Some b) = Some (number_at r.start b.at)

-- what the finding about a device with this UID is about
abbrev pub of_device : RunFacts → ℕ → Bool → Option ℕ → Option Breach → About
of_device r u acked see breach = record {
  judgement = device_judgement r acked breach;
  uid = Some u;
  exchange = device_exchange r see breach;
}

-- whether a device's text was read, its mute was acknowledged, or bytes came when it alone was asked
abbrev pub is_noticed : RunUids → Misreads → ℕ → Bool
is_noticed heard misreads u = in_uids heard u || is_some (misread_in misreads u)

-- The finding about a listed device. The sets have the UIDs that were heard, and those that acknowledged a mute
abbrev pub device_finding : Form → RunFacts → Misreads → RunUids → RunUids → DeviceFinding → List ℕ
device_finding form r misreads heard acked f =
    finding form (of_device r f.uid (in_uids acked f.uid) (seen_at r misreads f.uid) f.breach)
    (uid_text f.uid
    ++ verdict_text r (is_noticed heard misreads f.uid) (in_uids acked f.uid) (seen_at r misreads f.uid) f.breach)

-- who broke a rule by bad answers after a UID was asked. If it had many, noise seldom made them all
abbrev pub guilt_text : (stubborn : Bool) → List ℕ
guilt_text stubborn =
    if stubborn then codes "a rule was broken, by a device rather than noise"
    else codes "a rule was broken, by a device or noise"

-- why a UID acknowledged no mute. If bytes came after one, another device or noise may be to blame
abbrev pub culprit_why : (garbled stubborn : Bool) → List ℕ
culprit_why garbled stubborn = if garbled then guilt_text stubborn else codes "it left, or broke a rule"

-- what is said of a UID that answered a branch of it alone, and then acknowledged no mute
abbrev pub culprit_text : (garbled stubborn : Bool) → List ℕ
culprit_text garbled stubborn =
    codes " answered alone and then acknowledged no mute: " ++ culprit_why garbled stubborn

-- the finding about such a UID. The flags say that bytes came after a mute of it, and that it had many bad answers
abbrev pub culprit_found : Form → ℕ → (garbled stubborn : Bool) → List ℕ
culprit_found form u garbled stubborn = uid_finding form judged.Unmuted u (culprit_text garbled stubborn)

-- the same in a run with these exchanges
abbrev pub culprit_finding : Form → RunFacts → List Exchange → ℕ → List ℕ
culprit_finding form r xs u =
    culprit_found form u (list_any (is_garbled_mute u) xs) (is_stubborn r.failure xs u)

-- The first exchange in which other bytes than its text answered a branch of u alone, unless the line about bytes that
-- no honest line allows names u
abbrev pub suspect_at : RunFacts → Misreads → ℕ → Option ℕ
suspect_at r misreads u = if is_some (mentioned r.garbled u) then None else misread_at r misreads u

-- what is said of such a UID, and of the exchange with this number
abbrev pub suspect_text : (stubborn : Bool) → (number : ℕ) → List ℕ
suspect_text stubborn number =
    codes " alone was asked, and bytes came that are no right answer; " ++ guilt_text stubborn
    ++ (codes " (exchange " ++ decimal number ++ codes ")")

-- the finding about such a UID, if there is such an exchange. The flag says that it had many bad answers
abbrev pub suspect_found : Form → ℕ → (stubborn : Bool) → Option ℕ → List ℕ
suspect_found form u stubborn None = []
suspect_found form u stubborn (Some number) =
    finding form (record { judgement = judged.Garbled; uid = Some u; exchange = Some number })
    (uid_text u ++ suspect_text stubborn number)

-- the same of a UID that isn't listed, in a run with these exchanges
abbrev pub suspect_finding : Form → RunFacts → Misreads → List Exchange → ℕ → List ℕ
suspect_finding form r misreads xs u = suspect_found form u (is_stubborn r.failure xs u) (suspect_at r misreads u)

-- what a known UID lacks, before its exchange
abbrev pub gone_before : Rule → List ℕ
gone_before SilentBranches = codes " was known, and wasn't heard: exchange "
gone_before SilentMutes = codes " was known, and didn't answer five mutes: exchange "
gone_before GarbledMute = codes " was known, and bytes came that don't acknowledge its mute: exchange "

-- and after it
abbrev pub gone_after : Rule → List ℕ
gone_after SilentBranches = codes " is the fifth silence in a row in a range that holds it"
gone_after SilentMutes = codes " is the last of them"
gone_after GarbledMute = []

-- about a known UID and the exchange with this number
abbrev pub of_gone : ℕ → ℕ → About
of_gone u number = record { judgement = judged.Gone; uid = Some u; exchange = Some number }

-- A known UID that acknowledged no mute, by the rule that it would have broken if its device had stayed: that counts
-- against nobody. If it would have broken none, the run must be over
abbrev pub gone_finding : Form → RunFacts → DeviceFinding → List ℕ
gone_finding form r f = elim f.breach [
  | None ↦
      if r.whole then
      uid_finding form judged.Gone f.uid
      (codes " was known, and wasn't found: the run ended before it was clear whether it is there")
      else []
  | Some b ↦
      finding form (of_gone f.uid (number_at r.start b.at))
      (uid_text f.uid ++ (gone_before b.rule ++ decimal (number_at r.start b.at) ++ gone_after b.rule))
]
