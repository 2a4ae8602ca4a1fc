-- What is printed for a run: the findings about exactly its exchanges.
use Rattle.std.specs.Prelude.{◌≡◌, ℕ, Bool, ◌&&◌, ◌||◌, not, List, [], ◌∷◌, ◌++◌, Option, Some, None, flat_map, filter}
use Rattle.std.specs.Prelude.{false, is_none, is_some, if◌then◌else◌, fold, length, nat_le, ◌-◌, ◌==◌}
use Rattle.std.specs.List.{find, position}
use Rattle.rdm_wire.specs.Uid.{has, is_broadcast}
use Rattle.rdm_wire.specs.Devices.{uids_of}
use Rattle.rdm_agent.specs.Run.{acked_in}
use Rattle.rdm_agent.specs.declared.fault.AgentFault.{AgentFault}
use Rattle.rdm_agent.specs.declared.fault.AgentFault.TheVariants.{Corrupt}
use Rattle.rdm_agent.specs.declared.limits.TheConstants.{MOST_APART}
use Rattle.rdm_agent.specs.declared.kind.Kind.{Kind}
use Rattle.rdm_agent.specs.declared.kind.Kind.TheVariants.{Full, Incremental}
use Rattle.rdm_explain.specs.declared.certificate.KnownFinding.{KnownFinding}
use Rattle.rdm_explain.specs.declared.certificate.RunFinding.{RunFinding}
use Rattle.rdm_explain.specs.declared.exchange.Exchange.{Exchange}
use Rattle.rdm_explain.specs.declared.rule.DeviceFinding.{DeviceFinding}
use Rattle.rdm_explain.specs.declared.sighting.Sighting.{Sighting}
use Rattle.rdm_explain.specs.Certificates.{ExplainsRun, ExplainsKnown}
use Rattle.rdm_explain.specs.Exchanges.{seen_all}
use Rattle.rdm_explain.specs.Garbled.{FirstGarbled}
use Rattle.rdm_explain.specs.Reported.{reported_in}
use Rattle.rdm_explain.specs.Rules.{AreFirstBreaches, uids_of_findings}
use Rattle.rdm_explain.specs.Strays.{FirstStray}
use Rattle.rdm_findings.specs.declared.cause.Cause.{Cause}
use Rattle.rdm_findings.specs.declared.cause.Cause.TheVariants as causes
use Rattle.rdm_findings.specs.declared.explaining.Findings.{Findings}
use Rattle.rdm_findings.specs.declared.flaw.Flaw.{Flaw}
use Rattle.rdm_findings.specs.declared.form.Form.{Form}
use Rattle.rdm_findings.specs.declared.head.RunHead.{RunHead}
use Rattle.rdm_findings.specs.declared.heard.RunUids.{RunUids}
use Rattle.rdm_findings.specs.declared.mention.Mention.{Mention}
use Rattle.rdm_findings.specs.declared.mention.RunFacts.{RunFacts}
use Rattle.rdm_findings.specs.BadAnswers.{bad_answers, before_failure, is_stubborn}
use Rattle.rdm_findings.specs.DeviceText.{device_finding, culprit_finding, suspect_finding, gone_finding}
use Rattle.rdm_findings.specs.Ends.{is_complete, is_whole, decides_stray, end_of, first_uid, unmuted_at}
use Rattle.rdm_findings.specs.FindingText.{head_finding, run_gaps, quiet_text, stray_finding, garbled_finding}
use Rattle.rdm_findings.specs.FindingText.{unless_garbled, any_broke}
use Rattle.rdm_findings.specs.Flaws.{may_be_noise}
use Rattle.rdm_findings.specs.HeardUids.{heard_in, in_uids}
use Rattle.rdm_findings.specs.Orders.{order_finding, order_of}
use Rattle.rdm_findings.specs.Passing.{any_about, is_passing}
use Rattle.rdm_findings.specs.RunJson.{before_run, run_end}
use Rattle.rdm_findings.specs.UnmuteText.{answered_finding}
use Rattle.rdm_findings.specs.Mentions.{garbled_mention, stray_mention, is_misread, misread_by, misread_in}

-- some UIDs, and then the others of a list
abbrev pub with_others : List ℕ → List ℕ → List ℕ
with_others us others = us ++ filter (λ u. not (has us u)) others

-- those that don't come or leave
abbrev pub staying : List ℕ → List ℕ → List ℕ
staying passing us = filter (λ u. not (has passing u)) us

-- the reported devices, and then the others that are present; but none of those that come or leave
abbrev pub listed : List ℕ → List ℕ → List ℕ → List ℕ
listed reported present passing = staying passing (with_others reported present)

-- the listed devices, and then those that come or leave
abbrev pub with_passing : List ℕ → List ℕ → List ℕ → List ℕ
with_passing reported present passing = listed reported present passing ++ passing

-- Some UIDs, and then another one, if there is one, and it is in neither list. At most so many as a run of this project
-- sets apart
abbrev pub with_suspect : (us suspects : List ℕ) → Option ℕ → List ℕ
with_suspect us suspects None = suspects
with_suspect us suspects (Some u) =
    if nat_le MOST_APART (length suspects) || (has suspects u || has us u) then suspects else suspects ++ u ∷ []

-- some UIDs, and then those that answered alone in these exchanges, and then acknowledged no mute
abbrev pub unmuted_after : (us found suspects : List ℕ) → List Exchange → List ℕ
unmuted_after us found suspects [] = suspects
unmuted_after us found suspects (e ∷ rest) =
    unmuted_after us found (with_suspect us suspects (unmuted_at found e rest)) rest

-- The UIDs that answered alone, and then acknowledged no mute, before an exchange failed, in a run that reports these
-- devices, but none of the list, which has the devices that are listed, or come or leave
abbrev pub culprits_of : Option ℕ → List ℕ → List ℕ → List Exchange → List ℕ
culprits_of failure us reported xs = unmuted_after us reported [] (before_failure failure xs)

-- some UIDs, and then those that were asked alone in these exchanges, and that other bytes answered than their text
abbrev pub misread_after : (us suspects : List ℕ) → List Exchange → List ℕ
misread_after us suspects xs = fold (λ s e. with_suspect us s (misread_by e.asked e.heard)) suspects xs

-- Those of a run that aren't on the list, before an exchange failed. None if the certificate is complete: a device with
-- such a UID would have been found, unless it broke a rule
abbrev pub suspects_of : RunFinding → List ℕ → List Exchange → List ℕ
suspects_of certificate us xs =
    if is_complete certificate then [] else misread_after us [] (before_failure certificate.failure xs)

-- the known UIDs that are neither in the set nor in the list; none if the log doesn't have the known ones
abbrev pub gone_of : RunUids → (due : List ℕ) → Option (List ℕ) → List ℕ
gone_of acked due None = []
gone_of acked due (Some known) = filter (λ u. not (in_uids acked u || has due u)) known

-- the UIDs that a run was to mute first, if its kind is known and, for an incremental one, the known UIDs are
abbrev pub first_of : Option Kind → Option (List ℕ) → Option (List ℕ)
first_of None known = None
first_of (Some Full) known = Some []
first_of (Some Incremental) known = known

-- the findings that depend on the UIDs that the run was to mute first; none if these aren't known
abbrev pub ExplainsNames : Option (List ℕ) → List Exchange → Option KnownFinding → Type 0
ExplainsNames None xs names = names ≡ None
ExplainsNames (Some first) xs None = ⊥
ExplainsNames (Some first) xs (Some names) = ExplainsKnown first xs names

-- The findings about these exchanges of a run: about its certificate of the devices whose mutes were acknowledged, and
-- about each of these and each of the list `present`, but none of `passing`, which come or leave. About the UIDs
-- that answered alone, and then acknowledged no mute; about others that were answered wrongly when they were asked
-- alone; and about each other known UID that acknowledged no mute. Then about bytes that came though none of the listed
-- devices, nor one of the UIDs that didn't mute, nor one of `passing` was due; and about bytes that no honest line
-- allows, whichever devices are on it
pub record Finds (kind : Option Kind) (known : Option (List ℕ)) (present passing : List ℕ) (xs : List Exchange)
    (f : Findings) : Type 0 where
  pub acknowledged : f.reported ≡ reported_in (seen_all xs)
  pub certifies : ExplainsRun f.reported xs f.certificate
  pub named : ExplainsNames (first_of kind known) xs f.names
  pub all : uids_of_findings f.devices.items ≡ listed (uids_of f.reported) present passing
  pub first_breaches : AreFirstBreaches xs f.devices.items
  pub unmuted : f.culprits.items
      ≡ culprits_of f.certificate.failure (with_passing (uids_of f.reported) present passing) (uids_of f.reported) xs
  pub due : f.due.items ≡ with_passing (uids_of f.reported) present passing ++ f.culprits.items
  pub misread_alone : f.suspects.items ≡ suspects_of f.certificate f.due.items xs
  pub all_gone : uids_of_findings f.gone.items ≡ gone_of f.acked f.due.items known
  pub gone_breaches : AreFirstBreaches xs f.gone.items
  pub first_stray :
      FirstStray (listed (uids_of f.reported) present passing ++ f.culprits.items) passing xs f.stray
  pub first_garbled : FirstGarbled xs f.garbled
  pub lists : f.expects ≡ not (length present == 0)
  -- the first exchange that misread each UID, the UIDs that were heard, and those that acknowledged a mute
  pub misread : (u : ℕ) → misread_in f.misreads u ≡ position (is_misread u) xs
  pub heard : (u : ℕ) → in_uids f.heard u ≡ has (heard_in (seen_all xs)) u
  pub acked : (u : ℕ) → in_uids f.acked u ≡ has (acked_in (seen_all xs)) u

-- whether the log has all of the run
abbrev pub shows_all : RunHead → List Exchange → Findings → Bool
shows_all head xs f = is_whole head f.reported xs f.certificate

-- the first stray exchange that has a line of its own
abbrev pub stray_of : Findings → Option Sighting
stray_of f = unless_garbled f.garbled f.stray

-- what lines of devices depend on beside their findings
abbrev pub facts_of : RunHead → List Exchange → Findings → RunFacts
facts_of head xs f = record {
  start = head.start;
  whole = shows_all head xs f;
  failure = f.certificate.failure;
  garbled = garbled_mention head.start head.flaw xs f.garbled;
  stray = stray_mention head.start f.due.items xs (stray_of f);
}

-- the findings about UIDs that aren't listed
abbrev pub others_text : Form → RunFacts → List Exchange → Findings → List ℕ
others_text form r xs f =
    flat_map (culprit_finding form r xs) f.culprits.items
    ++ flat_map (suspect_finding form r f.misreads xs) f.suspects.items
    ++ flat_map (gone_finding form r) f.gone.items

-- the findings about devices
abbrev pub devices_text : Form → RunFacts → List Exchange → Findings → List ℕ
devices_text form r xs f =
    flat_map (device_finding form r f.misreads f.heard f.acked) f.devices.items
    ++ others_text form r xs f

-- how many of these devices acknowledged no mute
abbrev pub missing_of : RunUids → List DeviceFinding → ℕ
missing_of acked fs = length (filter (λ f. not (in_uids acked f.uid)) fs)

-- how many listed devices acknowledged no mute, if the log has all of the run
abbrev pub missing_in : RunHead → List Exchange → Findings → ℕ
missing_in head xs f = if shows_all head xs f then missing_of f.acked f.devices.items else 0

-- whether there is one such exchange alone
abbrev pub is_only : Option Sighting → Bool
is_only None = false
is_only (Some s) = s.more == 0

-- whether a run found all devices that stayed and followed the rules, and all that are listed, and one exchange alone
-- has bytes that no honest line allows, which noise may have made, and no other has bytes though no device was due
abbrev pub is_calm : RunHead → List Exchange → Findings → Bool
is_calm head xs f =
    decides_stray head f.certificate && (missing_in head xs f == 0) && is_only f.garbled && may_be_noise head.flaw
    && is_none (stray_of f)

-- Whether a device with the UID v, at which a run ended, may rather be to blame than u: u had at most one more bad
-- answer. The last one of v may be its own text, which isn't counted
abbrev pub is_likelier : List Exchange → (v u : ℕ) → Bool
is_likelier xs v u = not ((v == u) || is_broadcast v) && nat_le (bad_answers u xs - 1) (bad_answers v xs)

-- the UID at which a run ended, if its device may rather be to blame than u
abbrev pub other_end : List Exchange → Option (Option AgentFault) → ℕ → Option ℕ
other_end xs (Some (Some (Corrupt v))) u = if is_likelier xs v u then Some v else None
other_end xs _ u = None

-- whether u comes or leaves, or was known and acknowledged no mute
abbrev pub is_absent : Findings → ℕ → Bool
is_absent f u = any_about u f.gone.items || is_passing f u

-- the UID at which a run ended, if its device isn't one that may be gone
abbrev pub present_end : Findings → Option ℕ → Option ℕ
present_end f None = None
present_end f (Some v) = if is_absent f v then None else Some v

-- whether the first reply with a flaw is one that a device must have sent
abbrev pub is_sent : Option Flaw → Bool
is_sent flaw = is_some flaw && not (may_be_noise flaw)

-- whether the device of u may be gone, and noise may have made the bytes after it was asked
abbrev pub may_be_gone : RunHead → Findings → ℕ → Bool
may_be_gone head f u = is_absent f u && not (is_sent head.flaw)

-- the first of some UIDs that had many bad answers
abbrev pub stubborn_in : Option ℕ → List Exchange → List ℕ → Option ℕ
stubborn_in failure xs us = find (is_stubborn failure xs) us

-- a UID that had many bad answers: one that answered alone and then acknowledged no mute, or else one that isn't listed
-- and alone got a wrong answer, or else a listed one
abbrev pub stubborn_else : Option ℕ → List Exchange → Findings → Option ℕ
stubborn_else failure xs f =
    first_uid (stubborn_in failure xs f.culprits.items)
    (first_uid (stubborn_in failure xs f.suspects.items) (stubborn_in failure xs (uids_of_findings f.devices.items)))

-- Who may be to blame beside noise, if no other one had many bad answers. The flags say that the device of the UID that
-- was asked may be gone, and that it was found
abbrev pub alone_cause : (gone found : Bool) → Cause
alone_cause gone found = if gone then causes.Gone else causes.Unclear found

-- The same. `end` is another UID, at which the run ended, and `stubborn` one that had many bad answers
abbrev pub unclear_cause : (gone found : Bool) → (end stubborn : Option ℕ) → Cause
unclear_cause gone found (Some v) stubborn = if gone then causes.Ended v else causes.Other v
unclear_cause gone found None (Some v) = causes.Stubborn v
unclear_cause gone found None None = alone_cause gone found

-- Noise, in a run in which it may be alone to blame for the bytes of a UID that no device should have. A known device
-- may have that UID, if it wasn't taken away
abbrev pub calm_cause : Findings → ℕ → Cause
calm_cause f u = if any_about u f.gone.items then causes.Gone else causes.Noise f.expects

-- A device that had many bad answers, or that with which the run ended; or another one that had many; or one that may
-- be gone; or any one, or noise
abbrev pub device_cause : RunHead → List Exchange → Findings → ℕ → Cause
device_cause head xs f u =
    if is_stubborn f.certificate.failure xs u then causes.Device (in_uids f.acked u)
    else unclear_cause (may_be_gone head f u) (in_uids f.acked u)
    (present_end f (other_end xs (end_of head f.reported xs f.certificate) u))
    (stubborn_else f.certificate.failure xs f)

-- whether no device should have u: it isn't listed, doesn't come or leave, isn't one of those that answered alone and
-- then acknowledged no mute, and its text wasn't read
abbrev pub is_nobody : Findings → ℕ → Bool
is_nobody f u = not (has f.due.items u || in_uids f.heard u)

-- who is to blame for bytes after u was asked, if it acknowledged no mute
abbrev pub unfound_cause : RunHead → List Exchange → Findings → ℕ → Cause
unfound_cause head xs f u =
    if is_calm head xs f && is_nobody f u then calm_cause f u else device_cause head xs f u

-- the same, whether it did or not
abbrev pub cause_at : RunHead → List Exchange → Findings → ℕ → Cause
cause_at head xs f u =
    if is_calm head xs f && (in_uids f.acked u && not (is_passing f u)) then causes.Found
    else unfound_cause head xs f u

-- the same, and whether an exchange failed: then the adapter and the cable come first
abbrev pub cause_or_failed : RunHead → List Exchange → Findings → ℕ → Cause
cause_or_failed head xs f u =
    if is_some f.certificate.failure then causes.Failed (is_stubborn f.certificate.failure xs u)
    else cause_at head xs f u

-- the same of bytes that a line names, if there are any
abbrev pub cause_by : RunHead → List Exchange → Findings → Option Mention → Cause
cause_by head xs f None = causes.Unclear false
cause_by head xs f (Some m) = cause_or_failed head xs f m.uid

-- Who is probably to blame for the first bytes that no honest line allows. A device would have been found, or would
-- have sent such bytes again, and noise seldom comes so often after one UID. The one at which the run ended kept it
-- from going on
abbrev pub cause_of : RunHead → List Exchange → Findings → Cause
cause_of head xs f = cause_by head xs f (garbled_mention head.start head.flaw xs f.garbled)

-- the findings about bytes
abbrev pub bytes_text : Form → RunHead → List Exchange → Findings → List ℕ
bytes_text form head xs f =
    stray_finding form head.start f.due.items (decides_stray head f.certificate) xs (stray_of f)
    ++ garbled_finding form head.start (cause_of head xs f) head.flaw xs f.garbled
    ++ answered_finding form head.start xs

-- the UID that a line names, if it had many bad answers
abbrev pub stubborn_by : Option ℕ → List Exchange → Option Mention → Option ℕ
stubborn_by failure xs None = None
stubborn_by failure xs (Some m) = if is_stubborn failure xs m.uid then Some m.uid else None

-- A UID that had many bad answers, if a finding names one: the one after which the first bytes came that no honest line
-- allows, or else another one
abbrev pub stubborn_of : RunHead → List Exchange → Findings → Option ℕ
stubborn_of head xs f =
    first_uid (stubborn_by f.certificate.failure xs (garbled_mention head.start head.flaw xs f.garbled))
    (stubborn_else f.certificate.failure xs f)

-- the findings about the run, its certificate and its silence
abbrev pub run_text : Form → RunHead → List Exchange → Findings → List ℕ
run_text form head xs f =
    head_finding form head f.reported (missing_in head xs f) (stubborn_of head xs f) xs f.certificate f.names
    ++ run_gaps form head.start f.certificate f.names
    ++ quiet_text form head xs f.certificate

-- Their text: a finding a line, or an object of JSON that has what is known of the run, and its findings
abbrev pub findings_text : Form → RunHead → List Exchange → Findings → List ℕ
findings_text form head xs f =
    run_text form head xs f
    ++ (devices_text form (facts_of head xs f) xs f ++ bytes_text form head xs f
    ++ (order_finding form (order_of head xs f) ++ run_end form))

-- whether any finding is that a rule was broken. A known UID that is gone broke none
abbrev pub is_broken : RunHead → Findings → Bool
is_broken head f =
    (any_broke f.devices.items || is_some f.garbled) || not (length f.culprits.items == 0)
    || (decides_stray head f.certificate && is_some f.stray)

-- The text has the findings about these exchanges of a run, and says whether a rule was broken. `any` says whether
-- others were printed before. `known` has the UIDs that were known before it, if the log has them. The devices of
-- `present` were on the line during the whole run, those of `passing` came or left.
pub record IsExplained (form : Form) (any : Bool) (head : RunHead) (known : Option (List ℕ))
    (present passing : List ℕ) (xs : List Exchange) (text : List ℕ) (broken : Bool) : Type 0 where
  pub findings : Findings
  pub finds : Finds head.kind known present passing xs findings
  pub prints : text ≡ before_run form any ++ findings_text form head xs findings
  pub breaks : broken ≡ is_broken head findings
