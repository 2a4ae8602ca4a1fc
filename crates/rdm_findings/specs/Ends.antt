-- Whether the log of a run shows that the run is over, how it ended, and whether it found each device.
use Rattle.std.specs.Prelude.{ℕ, ◌-◌, Bool, true, false, ◌&&◌, ◌||◌, not, nat_le, nat_lt, List, Option, Some, None}
use Rattle.std.specs.Prelude.{length, slice_get, is_some, drop, take, ◌==◌, if◌then◌else◌}
use Rattle.std.specs.List.{list_any, list_all}
use Rattle.rdm_wire.specs.Honest.{is_acked}
use Rattle.rdm_wire.specs.Uid.{has, is_broadcast}
use Rattle.rdm_wire.specs.Devices.{uids_of}
use Rattle.rdm_wire.specs.declared.device.Device.{Device}
use Rattle.rdm_agent.specs.Cause.{answers_in_a_row}
use Rattle.rdm_agent.specs.Run.{is_branch}
use Rattle.rdm_agent.specs.declared.fault.AgentFault.{AgentFault}
use Rattle.rdm_agent.specs.declared.fault.AgentFault.TheVariants.{Corrupt, TooMany, Exhausted}
use Rattle.rdm_agent.specs.declared.limits.TheConstants.{BAD_ANSWERS}
use Rattle.rdm_agent.specs.declared.search.Search.{Search}
use Rattle.rdm_agent.specs.declared.search.Search.TheVariants.{Steady, Quick}
use Rattle.rdm_explain.specs.declared.certificate.RunFinding.{RunFinding}
use Rattle.rdm_explain.specs.declared.certificate.KnownFinding.{KnownFinding}
use Rattle.rdm_explain.specs.declared.exchange.Asked.{Asked}
use Rattle.rdm_explain.specs.declared.exchange.Asked.TheVariants.{Branch, Mute}
use Rattle.rdm_explain.specs.declared.exchange.Heard.{Heard}
use Rattle.rdm_explain.specs.declared.exchange.Heard.TheVariants.{Failed, Silent, One}
use Rattle.rdm_explain.specs.declared.exchange.Exchange.{Exchange}
use Rattle.rdm_explain.specs.Exchanges.{heard_of, seen_all}
use Rattle.rdm_findings.specs.declared.head.RunHead.{RunHead}
use Rattle.rdm_findings.specs.Starts.{has_start}

-- whether no part of a certificate fails, but those that depend on known UIDs
abbrev pub is_complete : RunFinding → Bool
is_complete f =
    not (is_some f.missing_unmute) && not (is_some f.failure) && not (is_some f.misreported)
    && not (is_some f.untried) && not (is_some f.uncovered) && not (is_some f.other_data)

-- whether none of those fails
abbrev pub is_known_complete : KnownFinding → Bool
is_known_complete f = not (is_some f.not_muted_first) && not (is_some f.unread)

-- whether an answer is the text of this UID
abbrev pub is_own : ℕ → Heard → Bool
is_own u (One v) = v == u
is_own u _ = false

-- whether bytes came
abbrev pub has_bytes : Heard → Bool
has_bytes Failed = false
has_bytes Silent = false
has_bytes _ = true

-- whether a branch of one UID showed a device of this UID that these aren't
abbrev pub shows_new : List ℕ → ℕ → Heard → Bool
shows_new found u heard = is_own u heard && (not (is_broadcast u) && not (has found u))

-- the UID of a branch of one UID that was answered, and showed a device that isn't among these
abbrev pub new_alone : List ℕ → Asked → Heard → Option ℕ
new_alone found (Branch lo hi) heard = if (lo == hi) && shows_new found lo heard then Some lo else None
new_alone found _ heard = None

-- the same, but it showed no such device
abbrev pub wrong_alone : List ℕ → Asked → Heard → Option ℕ
wrong_alone found (Branch lo hi) heard =
    if (lo == hi) && (has_bytes heard && not (shows_new found lo heard)) then Some lo else None
wrong_alone found _ heard = None

-- the UID of an exchange of a list, if it is such a branch that showed a device
abbrev pub new_alone_in : List ℕ → Option Exchange → Option ℕ
new_alone_in found None = None
new_alone_in found (Some e) = new_alone found e.asked e.heard

-- the same, if it is one that showed none
abbrev pub wrong_alone_in : List ℕ → Option Exchange → Option ℕ
wrong_alone_in found None = None
wrong_alone_in found (Some e) = wrong_alone found e.asked e.heard

-- the exchange that has n - 1 others after it
abbrev pub from_end : ℕ → List Exchange → Option Exchange
from_end n xs = if nat_lt (length xs) n then None else slice_get xs (length xs - n)

-- the last n exchanges, or all if there are fewer
abbrev pub last_of : ℕ → List Exchange → List Exchange
last_of n xs = drop (length xs - n) xs

-- whether this is the mute of a UID, and no acknowledgement came
abbrev pub lacks_acknowledgement : ℕ → Asked → Heard → Bool
lacks_acknowledgement u (Mute v) heard = not (is_acked (heard_of heard)) && (v == u)
lacks_acknowledgement u _ heard = false

-- whether an exchange is one
abbrev pub is_lost_mute : ℕ → Exchange → Bool
is_lost_mute u e = lacks_acknowledgement u e.asked e.heard

-- whether bytes came after a mute of u, and don't acknowledge it
abbrev pub is_garbled_mute : ℕ → Exchange → Bool
is_garbled_mute u e = is_lost_mute u e && has_bytes e.heard

-- the UID, if each of these exchanges is a mute of it that wasn't acknowledged
abbrev pub if_never_muted : List Exchange → Option ℕ → Option ℕ
if_never_muted mutes None = None
if_never_muted mutes (Some u) = if list_all (is_lost_mute u) mutes then Some u else None

-- the first UID, or else the second
abbrev pub first_uid : Option ℕ → Option ℕ → Option ℕ
first_uid None second = second
first_uid (Some u) second = Some u

-- The UID that answered a branch of it alone, and then acknowledged none of five mutes, if the last six exchanges are
-- these. `found` has the devices that the run found
abbrev pub never_muted : List ℕ → List Exchange → Option ℕ
never_muted found xs = if_never_muted (last_of 5 xs) (new_alone_in found (from_end 6 xs))

-- The UID that answered a branch of it alone, by this exchange, and then acknowledged none of five mutes, if these come
-- next. `found` has the devices that the run found
abbrev pub unmuted_at : List ℕ → Exchange → List Exchange → Option ℕ
unmuted_at found e rest =
    if nat_lt (length rest) 5 then None else if_never_muted (take 5 rest) (new_alone found e.asked e.heard)

-- The UID with which a run of this project's agent ended as Corrupt, if these exchanges show that. `found` has the
-- devices that the run found. The last exchange is a branch of one UID that was answered, but showed no new device. Or
-- such a branch showed one, and the five exchanges after it are mutes of it without an acknowledgement
abbrev pub corrupt_uid : List ℕ → List Exchange → Option ℕ
corrupt_uid found xs = first_uid (wrong_alone_in found (from_end 1 xs)) (never_muted found xs)

-- whether a run searches quickly
abbrev pub is_quick : Option Search → Bool
is_quick (Some Quick) = true
is_quick (Some Steady) = false
is_quick None = false

-- Whether a run that searches like this ends as Corrupt once its exchanges show that of this UID: a quick one does so
-- only after eight bad answers of it alone in a row
abbrev pub are_enough : Option Search → ℕ → List Exchange → Bool
are_enough (Some Quick) u xs = nat_le BAD_ANSWERS (answers_in_a_row u (seen_all xs))
are_enough (Some Steady) u xs = true
are_enough None u xs = true

-- the UID, if they are enough
abbrev pub if_enough : Option Search → List Exchange → Option ℕ → Option ℕ
if_enough search xs None = None
if_enough search xs (Some u) = if are_enough search u xs then Some u else None

-- The UID with which such a run ended as Corrupt, if it begins by its three unmutes, and no exchange failed. With a
-- complete certificate a run ends without a fault
abbrev pub corrupt_end : Option Search → List Device → List Exchange → RunFinding → Option ℕ
corrupt_end search reported xs f =
    if is_some f.missing_unmute || is_some f.failure || is_complete f then None
    else if_enough search xs (corrupt_uid (uids_of reported) xs)

-- the end as Corrupt with this UID
abbrev pub as_corrupt : Option ℕ → Option AgentFault
as_corrupt None = None
as_corrupt (Some u) = Some (Corrupt u)

-- the end as TooMany: a device acknowledged a mute, and the report has no place for it
abbrev pub as_too_many : RunFinding → Option AgentFault
as_too_many f = if is_some f.misreported then Some TooMany else None

-- whether this many exchanges use up the budget of a run, if that is known
abbrev pub is_spent : ℕ → Option ℕ → Bool
is_spent many None = false
is_spent many (Some budget) = nat_le budget many

-- the end as Exhausted: a run has used up its budget, and wasn't done
abbrev pub as_exhausted : RunHead → List Exchange → RunFinding → Option AgentFault
as_exhausted head xs f =
    if is_spent (length xs) head.budget && not (is_complete f || is_some f.failure) then Some Exhausted else None

-- the first fault, or else the second
abbrev pub first_fault : Option AgentFault → Option AgentFault → Option AgentFault
first_fault None second = second
first_fault (Some fault) second = Some fault

-- the fault with which a run ended, if its exchanges show it: what the last reply shows comes before the budget
abbrev pub shown_fault : RunHead → List Device → List Exchange → RunFinding → Option AgentFault
shown_fault head reported xs f =
    first_fault (as_corrupt (corrupt_end head.search reported xs f))
    (first_fault (as_too_many f) (as_exhausted head xs f))

-- an end with this fault
abbrev pub with_fault : Option AgentFault → Option (Option AgentFault)
with_fault None = None
with_fault (Some fault) = Some (Some fault)

-- how a run ended that the log has from its beginning, if these exchanges show it
abbrev pub shown_end : RunHead → List Device → List Exchange → RunFinding → Option (Option AgentFault)
shown_end head reported xs f =
    if has_start head.start then with_fault (shown_fault head reported xs f) else None

-- the end that the log says, or else the one that the exchanges show
abbrev pub said_or_shown : Option (Option AgentFault) → Option (Option AgentFault) → Option (Option AgentFault)
said_or_shown None shown = shown
said_or_shown (Some fault) shown = Some fault

-- how the run ended, if the log says it, or its exchanges show it
abbrev pub end_of : RunHead → List Device → List Exchange → RunFinding → Option (Option AgentFault)
end_of head reported xs f = said_or_shown head.fault (shown_end head reported xs f)

-- whether exchanges show that nothing came after them, if they have all of a run up to there: no UID is left to be
-- searched, or the run ended with a fault
abbrev pub shows_end : RunHead → List Device → List Exchange → RunFinding → Bool
shows_end head reported xs f = is_complete f || is_some (shown_fault head reported xs f)

-- whether the run is over: the log says how it ended, or its exchanges show that nothing came after them
abbrev pub is_over : RunHead → List Device → List Exchange → RunFinding → Bool
is_over head reported xs f = (is_some head.fault || is_some f.failure) || shows_end head reported xs f

-- whether the log has all of the run
abbrev pub is_whole : RunHead → List Device → List Exchange → RunFinding → Bool
is_whole head reported xs f = has_start head.start && is_over head reported xs f

-- Whether stray bytes in this log of the run show that a rule was broken, unless their device left: the run found all
-- devices that stayed and followed the rules. In any other run they may be those of a device that it hadn't found yet,
-- also if it ended as Corrupt
abbrev pub decides_stray : RunHead → RunFinding → Bool
decides_stray head f = has_start head.start && is_complete f

-- Whether one of the three unmutes that begin a run is missing for good: one of so many exchanges is in its place.
-- Otherwise it may still come
abbrev pub lacks_unmute : ℕ → Option ℕ → Bool
lacks_unmute many None = false
lacks_unmute many (Some at) = nat_lt at many

-- whether exchanges have a branch
abbrev pub has_branch : List Exchange → Bool
has_branch xs = list_any is_branch (seen_all xs)

-- Whether a part that depends on known UIDs fails, and exchanges after these can't mend it: a mute of a UID that wasn't
-- read before; a known UID that wasn't muted, after a branch
abbrev pub loses_names : List Exchange → Option KnownFinding → Bool
loses_names xs None = false
loses_names xs (Some f) = is_some f.unread || (is_some f.not_muted_first && has_branch xs)

-- Whether a part of the certificate fails that exchanges after these can't mend: an unmute that is missing before
-- another exchange, an exchange that failed, what is reported, or such a part on known UIDs. They may still mend a mute
-- of a UID that wasn't acknowledged, and rule out other UIDs
abbrev pub is_lost : List Exchange → RunFinding → Option KnownFinding → Bool
is_lost xs f names =
    lacks_unmute (length xs) f.missing_unmute || is_some f.failure || is_some f.misreported || is_some f.other_data
    || loses_names xs names
