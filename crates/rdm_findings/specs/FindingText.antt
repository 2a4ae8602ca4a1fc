-- The text of findings about a run: one finding a line.
use Rattle.std.specs.Prelude.{ℕ, Bool, false, ◌&&◌, ◌||◌, List, [], ◌∷◌, ◌++◌, Option, Some, None, codes, decimal}
use Rattle.std.specs.Prelude.{length, slice_get, is_some, ◌==◌, if◌then◌else◌, true}
use Rattle.std.specs.List.{list_all}
use Rattle.rdm_wire.specs.Honest.{is_silent}
use Rattle.rdm_wire.specs.Uid.{is_broadcast, is_within}
use Rattle.rdm_wire.specs.UidText.{uid_text}
use Rattle.rdm_wire.specs.Devices.{uids_of}
use Rattle.rdm_wire.specs.declared.device.Device.{Device}
use Rattle.rdm_agent.specs.declared.kind.Kind.{Kind}
use Rattle.rdm_agent.specs.declared.kind.Kind.TheVariants.{Full, Incremental}
use Rattle.rdm_agent.specs.declared.search.Search.{Search}
use Rattle.rdm_agent.specs.declared.search.Search.TheVariants.{Steady, Quick}
use Rattle.rdm_agent.specs.declared.fault.AgentFault.{AgentFault}
use Rattle.rdm_agent.specs.declared.fault.AgentFault.TheVariants.{Corrupt, TooMany, Exhausted, LineFailed, Aborted}
use Rattle.rdm_explain.specs.declared.certificate.RunFinding.{RunFinding}
use Rattle.rdm_explain.specs.declared.certificate.KnownFinding.{KnownFinding}
use Rattle.rdm_explain.specs.declared.exchange.Asked.{Asked}
use Rattle.rdm_explain.specs.declared.exchange.Asked.TheVariants.{Branch, Mute}
use Rattle.rdm_explain.specs.declared.exchange.Heard.{Heard}
use Rattle.rdm_explain.specs.declared.exchange.Heard.TheVariants.{One}
use Rattle.rdm_explain.specs.declared.exchange.Exchange.{Exchange}
use Rattle.rdm_explain.specs.declared.rule.DeviceFinding.{DeviceFinding}
use Rattle.rdm_explain.specs.declared.sighting.Sighting.{Sighting}
use Rattle.rdm_explain.specs.Exchanges.{heard_of}
use Rattle.rdm_findings.specs.declared.cause.Cause.{Cause}
use Rattle.rdm_findings.specs.declared.cause.Cause.TheVariants as causes
use Rattle.rdm_findings.specs.declared.flaw.Flaw.{Flaw}
use Rattle.rdm_findings.specs.declared.head.RunHead.{RunHead}
use Rattle.rdm_findings.specs.declared.head.Start.{Start}
use Rattle.rdm_findings.specs.declared.head.Start.TheVariants.{At, Later, Unknown}
use Rattle.rdm_findings.specs.declared.stray_bytes.Sign.{Sign}
use Rattle.rdm_findings.specs.declared.stray_bytes.Sign.TheVariants as signs
use Rattle.rdm_findings.specs.declared.form.About.{About}
use Rattle.rdm_findings.specs.declared.form.Form.{Form}
use Rattle.rdm_findings.specs.declared.form.Judgement.{Judgement}
use Rattle.rdm_findings.specs.declared.form.Judgement.TheVariants as judged
use Rattle.rdm_findings.specs.Ends.{is_complete, is_known_complete, is_over, is_lost, end_of, decides_stray}
use Rattle.rdm_findings.specs.Ends.{corrupt_uid, is_quick, never_muted}
use Rattle.rdm_findings.specs.Flaws.{flaw_text}
use Rattle.rdm_findings.specs.Forms.{finding, after_sentence, of_run, of_exchange, of_uid}
use Rattle.rdm_findings.specs.OpenRanges.{uncovered_gap}
use Rattle.rdm_findings.specs.RunJson.{run_start}
use Rattle.rdm_findings.specs.Starts.{has_start, number_at}
use Rattle.rdm_findings.specs.StrayBytes.{sign_of}

-- an exchange, by its number
abbrev pub exchange_name : ℕ → List ℕ
exchange_name at = codes "exchange " ++ decimal at

-- how many others there are, if there are any
abbrev pub more_text : ℕ → List ℕ
more_text more = if more == 0 then [] else codes " (and " ++ decimal more ++ codes " more)"

-- an exchange, and how many others of its kind come after it
abbrev pub sighting_name : ℕ → ℕ → List ℕ
sighting_name at more = exchange_name at ++ more_text more

-- a finding about an exchange
abbrev pub exchange_finding : Form → Judgement → ℕ → List ℕ → List ℕ
exchange_finding form judgement at text = finding form (of_exchange judgement at) (exchange_name at ++ text)

-- a finding about a UID
abbrev pub uid_finding : Form → Judgement → ℕ → List ℕ → List ℕ
uid_finding form judgement u text = finding form (of_uid judgement u) (uid_text u ++ text)

-- the run's name: its number in its session; a discovery has none
abbrev pub name_text : Option ℕ → List ℕ
name_text (Some number) = codes "run " ++ decimal number
name_text None = codes "discovery"

-- the run's kind, if it is known
abbrev pub kind_text : Option Kind → List ℕ
kind_text None = []
kind_text (Some Full) = codes "full, "
kind_text (Some Incremental) = codes "incremental, "

-- how it searched, if that is known
abbrev pub search_text : Option Search → List ℕ
search_text None = []
search_text (Some Steady) = codes "steady, "
search_text (Some Quick) = codes "quick, "

-- a number of things
abbrev pub count_text : ℕ → List ℕ → List ℕ
count_text n thing = decimal n ++ thing ++ (if n == 1 then [] else codes "s")

-- that its budget is used up, which may be known
abbrev pub spent_text : Option ℕ → List ℕ
spent_text None = codes " (its budget of frames is used up)"
spent_text (Some budget) = codes " (its budget of " ++ count_text budget (codes " frame") ++ codes " is used up)"

-- why a UID ended a run. The flag says that it answered alone, and then acknowledged no mute
abbrev pub corrupt_text : (unmuted : Bool) → List ℕ
corrupt_text unmuted =
    if unmuted then codes " (it answered alone and then acknowledged no mute)"
    else codes " (it alone was asked, and the answers weren't a new device's)"

-- whether a UID is this one
abbrev pub is_this : Option ℕ → ℕ → Bool
is_this None u = false
is_this (Some v) u = v == u

-- after how many answers a budget was used up, if a UID had many wrong ones
abbrev pub wrongs_text : (stubborn : Option ℕ) → List ℕ
wrongs_text None = []
wrongs_text (Some u) = codes " after many wrong answers of " ++ uid_text u

-- What its fault is, in words. The second one is the UID that answered alone and then acknowledged no mute, if the
-- last exchanges show one. The third one is a UID that had many wrong answers, if there is one
abbrev pub reason_text : (budget unmuted stubborn : Option ℕ) → AgentFault → List ℕ
reason_text budget unmuted stubborn (Corrupt u) = corrupt_text (is_this unmuted u)
reason_text budget unmuted stubborn TooMany = codes " (more than 1,024 devices answered)"
reason_text budget unmuted stubborn Exhausted = spent_text budget ++ wrongs_text stubborn
reason_text budget unmuted stubborn LineFailed = codes " (the line failed)"
reason_text budget unmuted stubborn Aborted = codes " (it was aborted)"

-- that it ended early, and at which UID, if its answers ended it
abbrev pub early_text : AgentFault → List ℕ
early_text (Corrupt u) = codes "ended early at " ++ uid_text u
early_text _ = codes "ended early"

-- how it ended, if that is known
abbrev pub end_text : (budget unmuted stubborn : Option ℕ) → Option (Option AgentFault) → List ℕ
end_text budget unmuted stubborn None = []
end_text budget unmuted stubborn (Some None) = codes ", no fault"
end_text budget unmuted stubborn (Some (Some fault)) =
    codes ", " ++ early_text fault ++ reason_text budget unmuted stubborn fault

-- a certificate of which no part fails but those that depend on known UIDs. It shows that no device is on the line but
-- those that the run reports, unless one broke a rule
abbrev pub sound_text : Option Kind → Option KnownFinding → List ℕ
sound_text kind (Some names) =
    if is_known_complete names then codes "; no other device is on the line if all follow the rules"
    else codes "; no other device is on the line if all follow the rules, but the run isn't regular"
sound_text None None =
    codes "; no other device is on the line if all follow the rules; the log doesn't have the run's kind"
sound_text (Some kind) None =
    codes "; no other device is on the line if all follow the rules; the log doesn't have the run's known devices"

-- Whether a quick run of an older version ended here: a bad answer of one UID alone came, or a UID answered alone and
-- then acknowledged no mute. Newer versions go on, unless such answers come eight times in a row
abbrev pub may_be_old : RunHead → List Device → List Exchange → Bool
may_be_old head reported xs = is_quick head.search && is_some (corrupt_uid (uids_of reported) xs)

-- A certificate of which a part fails. If that isn't decided, exchanges that the log doesn't have may mend it. `old`
-- says that a run of an older version would have ended here
abbrev pub gap_text : (decided old : Bool) → List ℕ
gap_text decided old =
    if decided then codes "; others may be on the line"
    else (if old then
    codes "; others may be on the line: the run ended there if it is of an older version, or the log ends within it"
    else codes "; others may be on the line, or the log ends within the run")

-- the certificate, by the findings about its parts, if the log has the run's beginning
abbrev pub begun_text : RunHead → (decided old : Bool) → RunFinding → Option KnownFinding → List ℕ
begun_text head decided old f names = if is_complete f then sound_text head.kind names else gap_text decided old

-- the certificate; or why it can't be decided
abbrev pub certificate_text : RunHead → (decided old : Bool) → RunFinding → Option KnownFinding → List ℕ
certificate_text head decided old f names = elim head.start [
  | At number ↦
      if number == 0 then begun_text head decided old f names
      else codes "; others may be on the line, as the log begins within the run"
  | Later ↦ codes "; others may be on the line, as the log begins within the run; exchanges count from there"
  | Unknown ↦ codes "; others may be on the line, as the log may begin within the run; exchanges count from there"
]

-- whether the certificate is complete, by the findings about the parts that depend on the known UIDs
abbrev pub sound_judgement : Option KnownFinding → Judgement
sound_judgement (Some names) = if is_known_complete names then judged.Complete else judged.Incomplete
sound_judgement None = judged.Undecided

-- whether it is complete, if the log has the run's beginning
abbrev pub begun_judgement : Bool → RunFinding → Option KnownFinding → Judgement
begun_judgement decided f names =
    if is_complete f then sound_judgement names else (if decided then judged.Incomplete else judged.Undecided)

-- whether it is complete, if that can be decided
abbrev pub run_judgement : RunHead → Bool → RunFinding → Option KnownFinding → Judgement
run_judgement head decided f names = if has_start head.start then begun_judgement decided f names else judged.Undecided

-- the run's name, its kind, and how it searched
abbrev pub what_text : RunHead → List ℕ
what_text head = name_text head.number ++ codes ": " ++ (kind_text head.kind ++ search_text head.search)

-- that so many listed devices weren't found, if there are any
abbrev pub missing_text : ℕ → List ℕ
missing_text missing =
    if missing == 0 then []
    else (if missing == 1 then codes ", but 1 listed device wasn't found"
    else codes ", but " ++ decimal missing ++ codes " listed devices weren't found")

-- how many devices a run reports, and how many that are listed it didn't find
abbrev pub devices_count : (devices missing : ℕ) → List ℕ
devices_count devices missing = count_text devices (codes " device") ++ missing_text missing

-- how it ended, and how many devices it reports
abbrev pub outcome_text : (budget unmuted stubborn : Option ℕ) → Option (Option AgentFault) → (devices missing : ℕ)
    → List ℕ
outcome_text budget unmuted stubborn ending devices missing =
    end_text budget unmuted stubborn ending ++ codes ", " ++ devices_count devices missing

-- what the run was, how many exchanges it had, how it ended, if that is known, and how many devices it had
abbrev pub head_text : RunHead → (unmuted stubborn : Option ℕ) → Option (Option AgentFault)
    → (exchanges devices missing : ℕ) → List ℕ
head_text head unmuted stubborn ending exchanges devices missing =
    what_text head ++ count_text exchanges (codes " exchange")
    ++ outcome_text head.budget unmuted stubborn ending devices missing

-- whether gaps of the certificate are those of the run, and not only of its log: no exchange came after these, or none
-- could mend them
abbrev pub decides_gaps : RunHead → List Device → List Exchange → RunFinding → Option KnownFinding → Bool
decides_gaps head reported xs f names = is_over head reported xs f || is_lost xs f names

-- What a run's first finding says. It didn't find so many listed devices. `stubborn` is a UID that had many wrong
-- answers, if there is one
abbrev pub head_sentence : RunHead → List Device → (missing : ℕ) → (stubborn : Option ℕ) → List Exchange → RunFinding
    → Option KnownFinding → List ℕ
head_sentence head reported missing stubborn xs f names =
    head_text head (never_muted (uids_of reported) xs) stubborn (end_of head reported xs f) (length xs)
    (length reported) missing
    ++ certificate_text head (decides_gaps head reported xs f names) (may_be_old head reported xs) f names

-- the first finding of a run
abbrev pub head_finding : Form → RunHead → List Device → (missing : ℕ) → (stubborn : Option ℕ) → List Exchange
    → RunFinding → Option KnownFinding → List ℕ
head_finding form head reported missing stubborn xs f names =
    run_start form head (end_of head reported xs f) (length reported) xs
    (of_run (run_judgement head (decides_gaps head reported xs f names) f names))
    ++ (head_sentence head reported missing stubborn xs f names ++ after_sentence form)

-- a part of the certificate that fails at an exchange
abbrev pub exchange_gap : Form → Judgement → Option ℕ → List ℕ → List ℕ
exchange_gap form judgement None text = []
exchange_gap form judgement (Some at) text = exchange_finding form judgement at text

-- a part of the certificate that fails for a UID
abbrev pub uid_gap : Form → Option ℕ → List ℕ → List ℕ
uid_gap form None text = []
uid_gap form (Some u) text = uid_finding form judged.Gap u text

-- a part of the certificate that fails for a device
abbrev pub device_gap : Form → Option Device → List ℕ → List ℕ
device_gap form None text = []
device_gap form (Some d) text = uid_finding form judged.Gap d.uid text

-- an exchange that failed
abbrev pub failed_text : List ℕ
failed_text = codes " failed"

-- the parts about the unmutes, failed exchanges and the reported devices
abbrev pub start_gaps : Form → RunFinding → List ℕ
start_gaps form f =
    exchange_gap form judged.Gap f.missing_unmute (codes " should be one of the three unmutes that begin a run")
    ++ exchange_gap form judged.Failure f.failure failed_text
    ++ uid_gap form f.misreported
    (codes " acknowledged a mute, but isn't reported: a run reports at most 1,024 devices")

-- the parts about mutes, UIDs that weren't ruled out, and what is reported of a device
abbrev pub end_gaps : Form → RunFinding → List ℕ
end_gaps form f =
    exchange_gap form judged.Gap f.untried
    (codes " mutes a UID that neither acknowledged nor was muted five times in a row: perhaps no device has it")
    ++ uncovered_gap form f.uncovered f.uncovered_to
    ++ device_gap form f.other_data (codes " isn't reported as in its first acknowledgement")

-- the parts of the certificate that fail
abbrev pub gaps_text : Form → RunFinding → List ℕ
gaps_text form f = start_gaps form f ++ end_gaps form f

-- the parts about known UIDs that fail
abbrev pub names_gaps : Form → KnownFinding → List ℕ
names_gaps form f =
    uid_gap form f.not_muted_first (codes " is known, but wasn't muted before the first branch")
    ++ exchange_gap form judged.Gap f.unread (codes " mutes a UID that no earlier branch had read")

-- the parts that depend on the known UIDs
abbrev pub known_gaps : Form → Option KnownFinding → List ℕ
known_gaps form None = []
known_gaps form (Some f) = names_gaps form f

-- whether no byte came
abbrev pub hears_nothing : Exchange → Bool
hears_nothing e = is_silent (heard_of e.heard)

-- a run that found all devices, but heard none
abbrev pub quiet_text : Form → RunHead → List Exchange → RunFinding → List ℕ
quiet_text form head xs f =
    if decides_stray head f && list_all hears_nothing xs then
    finding form (of_run judged.Quiet) (codes "no byte came in the whole run: check the adapter and the first cable")
    else []

-- the first exchange that failed, by its number in the run
abbrev pub failure_gap : Form → Start → Option ℕ → List ℕ
failure_gap form start None = []
failure_gap form start (Some at) = exchange_finding form judged.Failure (number_at start at) failed_text

-- the parts of the certificate that fail. If the log may begin within the run, only a failure is decided
abbrev pub run_gaps : Form → Start → RunFinding → Option KnownFinding → List ℕ
run_gaps form start f names =
    if has_start start then gaps_text form f ++ known_gaps form names else failure_gap form start f.failure

-- a range that was asked
abbrev pub range_text : ℕ → ℕ → List ℕ
range_text lo hi =
    if lo == hi then codes ": " ++ uid_text lo ++ codes " alone was asked"
    else codes ": the UIDs from " ++ uid_text lo ++ (codes " to " ++ uid_text hi ++ codes " were asked")

-- a mute, after which bytes came
abbrev pub mute_text : ℕ → List ℕ
mute_text u = codes ": bytes came after a mute of " ++ uid_text u ++ codes ", which isn't listed"

-- after what bytes came, though nobody was due. After other frames than these, no bytes are stray
abbrev pub place_text : Asked → List ℕ
place_text (Branch lo hi) = range_text lo hi ++ codes ", and bytes came though no listed device was due"
place_text (Mute u) = mute_text u
place_text _ = []

-- whether a range was asked that has this UID
abbrev pub asks_around : ℕ → Asked → Bool
asks_around u (Branch lo hi) = is_within lo hi u
asks_around u _ = false

-- why a muted device may answer. A restart explains no answer for a range without its UID
abbrev pub unless_text : Bool → List ℕ
unless_text within = if within then codes " unless it restarted" else []

-- that a device should be silent
abbrev pub silent_text : Bool → List ℕ
silent_text within = codes ", which should be silent there" ++ unless_text within

-- what the bytes read as, which came after this
abbrev pub sign_text : Asked → Sign → List ℕ
sign_text asked (signs.Listed u) = codes "; they read as " ++ uid_text u ++ silent_text (asks_around u asked)
sign_text asked (signs.Other u) = codes "; they read as " ++ uid_text u ++ codes ", which isn't listed"
sign_text asked signs.Unread = []

-- Who may have sent bytes. The flag says that they show that a rule was broken, unless their sender comes or leaves.
-- Without it another device may have sent them. In both cases it need not be the one that they read as
abbrev pub sender_text : Bool → Sign → List ℕ
sender_text true (signs.Listed u) = []
sender_text false (signs.Listed u) = codes "; or another device sent them"
sender_text true (signs.Other u) = codes "; a rule was broken"
sender_text false (signs.Other u) = []
sender_text true signs.Unread = codes "; a rule was broken"
sender_text false signs.Unread = codes "; they may be noise, or those of a device that isn't listed"

-- about stray bytes that came after this
abbrev pub stray_text : Bool → Asked → Sign → List ℕ
stray_text decided asked sign = place_text asked ++ sign_text asked sign ++ sender_text decided sign

-- whether stray bytes show that a rule was broken
abbrev pub stray_judgement : Bool → Judgement
stray_judgement decided = if decided then judged.Stray else judged.Unexplained

-- the UID that bytes read as
abbrev pub sign_uid : Sign → Option ℕ
sign_uid (signs.Listed u) = Some u
sign_uid (signs.Other u) = Some u
sign_uid signs.Unread = None

-- what a stray exchange with this number is about
abbrev pub of_stray : Bool → ℕ → Sign → About
of_stray decided number sign =
    record { judgement = stray_judgement decided; uid = sign_uid sign; exchange = Some number }

-- the finding about a stray exchange with this number, and so many after it. `us` are the devices that are listed, or
-- come or leave
abbrev pub stray_found : Form → (number more : ℕ) → List ℕ → Bool → Option Exchange → List ℕ
stray_found form number more us decided None = []
stray_found form number more us decided (Some e) =
    finding form (of_stray decided number (sign_of us e.asked e.heard))
    (sighting_name number more ++ stray_text decided e.asked (sign_of us e.asked e.heard))

-- the finding about the first stray exchange, if there is one
abbrev pub stray_finding : Form → Start → List ℕ → Bool → List Exchange → Option Sighting → List ℕ
stray_finding form start us decided xs None = []
stray_finding form start us decided xs (Some s) =
    stray_found form (number_at start s.at) s.more us decided (slice_get xs s.at)

-- the first stray exchange, unless it is also the first that no device explains
abbrev pub unless_garbled : Option Sighting → Option Sighting → Option Sighting
unless_garbled None stray = stray
unless_garbled (Some garbled) None = None
unless_garbled (Some garbled) (Some s) = if s.at == garbled.at then None else Some s

-- Why noise is probably to blame after u was asked, before its UID. The flag says that devices are listed by --present
-- or the rig
abbrev pub nobody_before : (expects : Bool) → ℕ → List ℕ
nobody_before expects u =
    if is_broadcast u then codes ": no device may have "
    else (if expects then codes ": " else codes " if your rig has no ")

-- and after it
abbrev pub nobody_after : (expects : Bool) → ℕ → List ℕ
nobody_after expects u =
    if is_broadcast u then []
    else (if expects then codes " isn't listed, and all listed devices were found"
    else codes "; if it has, name it by --present")

-- both
abbrev pub nobody_text : (expects : Bool) → ℕ → List ℕ
nobody_text expects u = nobody_before expects u ++ uid_text u ++ nobody_after expects u

-- what to do with the device of a UID; without the flag, also what to do if no device has it
abbrev pub after_take : (found : Bool) → List ℕ
after_take found =
    if found then codes " off the line and discover again"
    else codes " off the line and discover again; if your rig has no such device, split the line"

-- what to do about u. A broadcast UID is no device's, so no single one can be taken off the line
abbrev pub off_text : (found : Bool) → ℕ → List ℕ
off_text found u =
    if is_broadcast u then codes "split the line and discover each half"
    else codes "take " ++ uid_text u ++ after_take found

-- whether a device or noise broke a rule, if nothing is said of what to do. The flag says that the UID that was asked
-- had many bad answers
abbrev pub guilt_after : (stubborn : Bool) → List ℕ
guilt_after stubborn =
    if stubborn then codes "; a rule was broken, by a device rather than noise"
    else codes "; a rule was broken, by a device or noise"

-- whether a device or noise broke a rule
abbrev pub who_text : Cause → List ℕ
who_text (causes.Device found) = codes "; a rule was broken, by a device rather than noise: "
who_text _ = codes "; a rule was broken, by a device or noise: "

-- which device to take off the line next
abbrev pub then_text : ℕ → List ℕ
then_text u = if is_broadcast u then [] else codes "; then " ++ uid_text u

-- what to do, if a run ended at v
abbrev pub end_off : ℕ → List ℕ
end_off v = codes "take " ++ uid_text v ++ codes ", at which the run ended, off the line and discover again"

-- what to do, if v had many bad answers and u had not
abbrev pub stubborn_off : ℕ → List ℕ
stubborn_off v =
    if is_broadcast v then codes "split the line and discover each half"
    else codes "take " ++ uid_text v ++ codes ", which had many wrong answers, off the line and discover again"

-- what to do first, if a run ended at v, and then about u
abbrev pub first_off : (v u : ℕ) → List ℕ
first_off v u = codes "first " ++ end_off v ++ then_text u

-- what is probably to blame for bytes that no honest line allows, whichever devices are on it, after u was asked, and
-- what to do
abbrev pub cause_text : Cause → ℕ → List ℕ
cause_text (causes.Noise expects) u =
    codes "; a rule was broken, probably by noise" ++ nobody_text expects u
    ++ codes "; if it happens again, check the cable and its terminator"
cause_text causes.Found u =
    codes "; a rule was broken, probably by noise: " ++ uid_text u
    ++ codes " was found all the same; if it happens again, take it off the line and discover again"
cause_text causes.Gone u =
    codes "; a rule was broken, perhaps by noise if you took " ++ uid_text u
    ++ codes " away; if it is still there, check its power and its cable, and discover again"
cause_text (causes.Device found) u = who_text (causes.Device found) ++ off_text found u
cause_text (causes.Unclear found) u = who_text (causes.Unclear found) ++ off_text found u
cause_text (causes.Other v) u = who_text (causes.Other v) ++ first_off v u
cause_text (causes.Ended v) u = who_text (causes.Ended v) ++ end_off v
cause_text (causes.Stubborn v) u = who_text (causes.Stubborn v) ++ stubborn_off v
cause_text (causes.Failed stubborn) u = guilt_after stubborn

-- what to do after a branch of u alone that reads as v. If the device of u may be gone, it can't be taken off the line
abbrev pub turns_text : Cause → (u v : ℕ) → List ℕ
turns_text (causes.Other w) u v = first_off w u
turns_text (causes.Ended w) u v = end_off w
turns_text (causes.Stubborn w) u v = stubborn_off w
turns_text causes.Gone u v = off_text true v
turns_text _ u v = off_text true v ++ then_text u

-- the same, and whether a device or noise broke a rule
abbrev pub blame_text : Cause → (u v : ℕ) → List ℕ
blame_text (causes.Failed stubborn) u v = guilt_after stubborn
blame_text cause u v = who_text cause ++ turns_text cause u v

-- The same after a branch of u alone, if the bytes are the text of v. Device v may have sent its own UID; but u or
-- another one may have sent it, or replies that collide read so
abbrev pub both_text : Cause → (u v : ℕ) → List ℕ
both_text cause u v = codes "; they read as " ++ uid_text v ++ blame_text cause u v

-- why bytes are no right answer, if that is known
abbrev pub why_text : Option Flaw → List ℕ
why_text None = []
why_text (Some flaw) = codes ": " ++ flaw_text flaw

-- the same, and what to do
abbrev pub wrong_text : Cause → Option Flaw → ℕ → List ℕ
wrong_text cause flaw u = why_text flaw ++ cause_text cause u

-- what to do after a branch of u alone
abbrev pub reply_text : Cause → Option Flaw → ℕ → Heard → List ℕ
reply_text cause flaw u (One v) = if is_broadcast v then cause_text cause u else both_text cause u v
reply_text cause flaw u _ = wrong_text cause flaw u

-- after a branch of u alone: bytes that aren't its text
abbrev pub other_bytes : Cause → Option Flaw → ℕ → Heard → List ℕ
other_bytes cause flaw u heard =
    codes " alone was asked, and bytes came that are no right answer" ++ reply_text cause flaw u heard

-- after a branch of u alone, its text: no device has such a UID, or it is muted. In that case another device may have
-- sent its UID
abbrev pub same_why : ℕ → List ℕ
same_why u =
    if is_broadcast u then codes " alone was asked and answered, though no device may have it; a rule was broken"
    else
    codes " alone was asked and answered, though it was muted: it restarted or broke a rule, or another has its UID"

-- what to do about u
abbrev pub off_advice : ℕ → List ℕ
off_advice u =
    if is_broadcast u then codes ": split the line and discover each half"
    else codes "; take it off the line and discover again"

-- the same, unless an exchange failed
abbrev pub same_advice : Cause → ℕ → List ℕ
same_advice (causes.Failed stubborn) u = []
same_advice _ u = off_advice u

-- both
abbrev pub same_text : Cause → ℕ → List ℕ
same_text cause u = same_why u ++ same_advice cause u

-- the same, or other bytes
abbrev pub own_text : Cause → Option Flaw → ℕ → Heard → List ℕ
own_text cause flaw u (Heard.One v) = if v == u then same_text cause u else other_bytes cause flaw u (Heard.One v)
own_text cause flaw u heard = other_bytes cause flaw u heard

-- bytes that don't acknowledge a mute of u
abbrev pub unacked_text : Cause → ℕ → Option Flaw → List ℕ
unacked_text cause u flaw = codes " that don't acknowledge it" ++ wrong_text cause flaw u

-- about bytes that came after a branch of one UID alone and aren't its text, or after a mute and don't acknowledge it
abbrev pub garbled_text : Cause → Option Flaw → Asked → Heard → List ℕ
garbled_text cause flaw (Branch lo hi) heard = codes ": " ++ uid_text lo ++ own_text cause flaw lo heard
garbled_text cause flaw (Mute u) heard =
    codes ": bytes came after a mute of " ++ uid_text u ++ unacked_text cause u flaw
garbled_text cause flaw _ heard = []

-- the UID that was asked alone
abbrev pub asked_uid : Asked → Option ℕ
asked_uid (Branch lo hi) = Some lo
asked_uid (Mute u) = Some u
asked_uid _ = None

-- what such an exchange with this number is about
abbrev pub of_garbled : ℕ → Asked → About
of_garbled number asked = record { judgement = judged.Garbled; uid = asked_uid asked; exchange = Some number }

-- the finding about such an exchange with this number, and so many after it
abbrev pub garbled_found : Form → (number more : ℕ) → Cause → Option Flaw → Option Exchange → List ℕ
garbled_found form number more cause flaw None = []
garbled_found form number more cause flaw (Some e) =
    finding form (of_garbled number e.asked) (sighting_name number more ++ garbled_text cause flaw e.asked e.heard)

-- the finding about the first such exchange, if there is one. It is also the first whose reply has a flaw, unless its
-- reply is the text of a UID
abbrev pub garbled_finding : Form → Start → Cause → Option Flaw → List Exchange → Option Sighting → List ℕ
garbled_finding form start cause flaw xs None = []
garbled_finding form start cause flaw xs (Some s) =
    garbled_found form (number_at start s.at) s.more cause flaw (slice_get xs s.at)

-- whether a device broke a rule
abbrev pub any_broke : List DeviceFinding → Bool
any_broke [] = false
any_broke (f ∷ fs) = is_some f.breach || any_broke fs
