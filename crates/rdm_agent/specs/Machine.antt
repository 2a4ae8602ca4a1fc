-- The agent as a machine over the replies that it gets.
use Rattle.std.specs.Prelude.{◌≡◌, ℕ, ◌+◌, ◌-◌, ◌*◌, Bool, true, false, ◌&&◌, ◌||◌, not, List, [], ◌∷◌}
use Rattle.std.specs.Prelude.{length, fold, Option, Some, None, ◌==◌, nat_lt, nat_le, if◌then◌else◌, min}
use Rattle.rdm_wire.specs.Uid.{has, is_within, is_broadcast}
use Rattle.rdm_wire.specs.Devices.{uids_of, with_device}
use Rattle.rdm_wire.specs.declared.device.Device.{Device}
use Rattle.rdm_wire.specs.declared.uid_set.TheConstants.{MOST_DEVICES}
use Rattle.rdm_wire.specs.Span.{Span, whole, lower_half, upper_half}
use Rattle.rdm_wire.specs.Honest.{Asked, Heard, Seen}
use Rattle.rdm_wire.specs.Honest.Asked.{Unmute, Branch, Mute}
use Rattle.rdm_wire.specs.Honest.Heard.{Failed, Silent, One, Acked, Noise}
use Rattle.rdm_agent.specs.Run.{device_from}
use Rattle.rdm_agent.specs.Certificate.{known_of}
use Rattle.rdm_agent.specs.declared.kind.Kind.{Kind}
use Rattle.rdm_agent.specs.declared.search.Search.{Search}
use Rattle.rdm_agent.specs.declared.search.Search.TheVariants.{Steady, Quick}
use Rattle.rdm_agent.specs.declared.fault.AgentFault.{AgentFault}
use Rattle.rdm_agent.specs.declared.limits.TheConstants.{TRIES, UNMUTES, BAD_ANSWERS}
use Rattle.rdm_agent.specs.declared.belief.Belief.{Belief}
use Rattle.rdm_agent.specs.declared.belief.Question.{Question}
use Rattle.rdm_agent.specs.declared.belief.Part.{Part}
use Rattle.rdm_agent.specs.declared.belief.Part.TheVariants.{Fresh, Whole, Apart}
use Rattle.rdm_agent.specs.declared.sweep.Sweep.{Sweep}
use Rattle.rdm_agent.specs.declared.fault.AgentFault.TheVariants.{Corrupt, TooMany, Exhausted, LineFailed}
use Rattle.rdm_agent.specs.Beliefs.{is_suspect, is_one, last_uid, first_belief, is_same, is_whole, question, ready}
use Rattle.rdm_agent.specs.Beliefs.{above, believed_silent, believed_found, believed_apart, suspecting, hushing}
use Rattle.rdm_agent.specs.Beliefs.{give_up, is_in_vain, all_of, end_answered}
use Rattle.rdm_agent.specs.Apart.{without, has_room, ask_turn, next_gap, set_apart}
use Rattle.rdm_agent.specs.Beliefs.{hearing, is_due, is_checked_again, stray_found}

-- The phases: the unmutes still to send; the mute of a known UID, with the tries made, and with how many garbled
-- replies needn't be counted as tries; the branch of the top range, with its silences, with its bad answers in a row,
-- and with the branches that it had since it was taken up or since a device was found in it; and the mute of a UID that
-- was read there, with the tries, the garbled replies to spare and the range's bad answers. Then the same two phases of
-- a sweep, which holds the range that it asks; the branch of a range without devices, which may be answered by a UID
-- that was spelt outside the sweep's range, with its silences; the mute of that UID; and the end.
pub data Phase : Type 0 where
  Unmuting : (more : ℕ) (known : List ℕ) → Phase
  MutingKnown : (u tries spare : ℕ) (known : List ℕ) → Phase
  Searching : (silences bads spent : ℕ) (top : Span) (below : List Span) → Phase
  MutingRead : (u tries spare bads : ℕ) (top : Span) (below : List Span) → Phase
  Sweeping : (sweep : Sweep) → Phase
  MutingSwept : (u tries spare : ℕ) (sweep : Sweep) → Phase
  Checking : (u silences : ℕ) (sweep : Sweep) → Phase
  MutingStray : (u tries spare : ℕ) (sweep : Sweep) → Phase
  Ended : (fault : Option AgentFault) → Phase

-- an agent: how many exchanges it may make and how many it has made, how it searches, the devices found, the UIDs that
-- are set apart, the newest first, whether there were more, and its phase
pub record AgentState : Type 0 where
  pub budget : ℕ
  pub frames : ℕ
  pub search : Search
  pub found : List Device
  pub apart : List ℕ
  pub more : Bool
  pub phase : Phase

-- the UIDs of the devices found
abbrev pub found_uids : AgentState → List ℕ
found_uids a = uids_of a.found

-- an agent at its start, with this search, kind, known UIDs and budget
abbrev pub start_by : Search → Kind → List ℕ → ℕ → AgentState
start_by search kind known budget = record {
  budget = budget;
  frames = 0;
  search = search;
  found = [];
  apart = [];
  more = false;
  phase = Unmuting UNMUTES (known_of kind known);
}

-- the same with the steady search
abbrev pub start : Kind → List ℕ → ℕ → AgentState
start kind known budget = start_by Steady kind known budget

-- The range that no maker's device is in: the manufacturer ffff isn't assigned. Only a device that breaks the rules
-- replies to its branch. It isn't ffff:ffffffff alone, because bad answers of one UID alone are counted.
abbrev pub unassigned : Span
unassigned = record { lo = 0xfffffffffffe; hi = 0xffffffffffff }

-- what a phase asks; None at the end
abbrev pub wanted : Phase → Option Asked
wanted (Unmuting more known) = Some Unmute
wanted (MutingKnown u tries spare known) = Some (Mute u)
wanted (Searching silences bads spent top below) = Some (Branch top.lo top.hi)
wanted (MutingRead u tries spare bads top below) = Some (Mute u)
wanted (Sweeping sweep) = Some (Branch sweep.question.range.lo sweep.question.range.hi)
wanted (MutingSwept u tries spare sweep) = Some (Mute u)
wanted (Checking u silences sweep) = Some (Branch unassigned.lo unassigned.hi)
wanted (MutingStray u tries spare sweep) = Some (Mute u)
wanted (Ended fault) = None

-- what the agent asks next: None is the end
abbrev pub next_of : AgentState → Option Asked
next_of a = if nat_lt a.frames a.budget then wanted a.phase else None

-- a sweep at its start, which asks the whole range
abbrev pub first_sweep : Sweep
first_sweep = record {
  made = 0;
  silences = 0;
  bads = 0;
  question = record { part = Fresh; range = whole };
  belief = first_belief;
}

-- the steady search of the whole range, which was silent so often
abbrev pub search_whole : ℕ → Phase
search_whole silences = Searching silences 0 silences whole []

-- the phase in which a search begins, on the whole range: a quick one sweeps first
abbrev pub first_phase : Search → Phase
first_phase Steady = search_whole 0
first_phase Quick = Sweeping first_sweep

-- GARBLED MUTES. A quick run doesn't count other bytes than the acknowledgement of a mute as one of its tries, but at
-- most so many in a series of mutes
abbrev pub garbled_mutes : ℕ
garbled_mutes = 8

-- how many a run with this search needn't count
abbrev pub spare_of : Search → ℕ
spare_of Steady = 0
spare_of Quick = garbled_mutes

-- the phase after the unmutes: the known UIDs are muted first, and then the search begins
abbrev pub search_from : Search → List ℕ → Phase
search_from search [] = first_phase search
search_from search (u ∷ us) = MutingKnown u 0 (spare_of search) us

-- the phase after the top range is done: the next range, or the end without fault
abbrev pub search_below : List Span → Phase
search_below [] = Ended None
search_below (r ∷ rs) = Searching 0 0 0 r rs

-- the phase after a split: the two halves, the lower one on top. A range of one UID is corrupt
abbrev pub split : Span → List Span → Phase
split r below =
    if r.lo == r.hi then Ended (Some (Corrupt r.lo))
    else Searching 0 0 0 (lower_half r) (upper_half r ∷ below)

-- BAD ANSWERS. The steady search of a quick run asks one UID alone again, until it had BAD_ANSWERS in a row. It asks
-- any other range again while that had at most five branches, until three bad answers in a row. A steady run asks none
-- again
abbrev pub asks_again : Search → Span → ℕ → ℕ → Bool
asks_again Steady top bads spent = false
asks_again Quick top bads spent = if is_one top then nat_lt bads BAD_ANSWERS else nat_le spent 5 && nat_lt bads 3

-- whether a new UID that the range spelt is muted: in a quick run only up to the fifth branch, unless one UID was asked
-- alone
abbrev pub is_soon : Search → Span → ℕ → Bool
is_soon Steady top spent = true
is_soon Quick top spent = is_one top || nat_le spent 5

-- how many garbled replies to its mutes needn't be counted: none after the last answer of one UID alone
abbrev pub spare_at : Search → Span → ℕ → ℕ
spare_at Steady top bads = 0
spare_at Quick top bads = if is_one top && not (nat_lt bads BAD_ANSWERS) then 0 else garbled_mutes

-- the branches of a range after one more; more than ten aren't counted
abbrev pub spent_more : ℕ → ℕ
spent_more spent = min (spent + 1) 10

-- the phase after a range had so many bad answers in a row and so many branches
abbrev pub search_apart : Search → ℕ → ℕ → Span → List Span → Phase
search_apart search bads spent top below =
    if asks_again search top bads spent then Searching 0 bads spent top below else split top below

-- whether a UID may be that of a new device in the range
abbrev pub is_new : List ℕ → Span → ℕ → Bool
is_new found r u = not (is_broadcast u) && is_within r.lo r.hi u && not (has found u)

-- whether a UID that was set apart is asked
abbrev pub is_apart : Part → Bool
is_apart Apart = true
is_apart _ = false

-- whether a fifth silence in a row is asked for: in the gap, and of a UID that was set apart
abbrev pub is_asked_out : Question → Belief → Bool
is_asked_out q b = is_same q.range (all_of b) || is_apart q.part

-- No other range is asked for a fifth silence in a row: the sweep continues above it. With five silences of every open
-- range a run would have its certificate, and would have to end
abbrev pub asking : ℕ → ℕ → ℕ → Question → Belief → Sweep
asking made again bads q b =
    if ((again + 1) == TRIES) && not (is_asked_out q b)
    then record { made = made; silences = 0; bads = 0; question = question (above q.range b); belief = above q.range b }
    else record { made = made; silences = again; bads = bads; question = q; belief = b }

-- the sweep with this belief and what it asks next, after so many silences or bad answers in a row of the range that it
-- asked last
unfoldable pub choose : ℕ → ℕ → ℕ → Span → Belief → Sweep
choose made silences bads last b =
    if is_same (question (ready b)).range last then asking made silences bads (question (ready b)) (ready b)
    else asking made 0 0 (question (ready b)) (ready b)

-- a sweep after one more exchange
abbrev pub counted : Sweep → Sweep
counted sweep = record sweep { made = sweep.made + 1 }

-- a sweep after one more branch, which was silent
abbrev pub counted_silent : Sweep → Sweep
counted_silent sweep = record sweep { made = sweep.made + 1; belief = hushing sweep.belief }

-- a sweep after one more branch, which spelt this UID
abbrev pub counted_spelt : ℕ → Sweep → Sweep
counted_spelt u sweep = record sweep { made = sweep.made + 1; belief = hearing u sweep.belief }

-- a sweep that gives up this UID
abbrev pub sweep_suspecting : ℕ → Sweep → Sweep
sweep_suspecting u sweep = record sweep { belief = suspecting u sweep.belief }

-- LIMIT. A sweep goes on while it has made fewer exchanges than this: 100 for each device found, and 200 more. Each UID
-- adds 60 while it is set apart. At most `found + 2` of them count, so that noise alone can't keep a sweep going for
-- long. The bound stays the same: on a noisy line only four disturbed branches in a row set a UID apart, and it allows
-- 15 exchanges for each. On an honest line none is set apart
abbrev pub sweep_limit : ℕ → ℕ → ℕ
sweep_limit found apart = 100 * (found + 2) + 60 * min apart (found + 2)

-- this agent's
abbrev pub limit_of : AgentState → ℕ
limit_of a = sweep_limit (length a.found) (length a.apart)

-- A sweep goes on below this limit. At the limit the steady search begins, in which the last silences of the whole
-- range count. The silences and bad answers are those of the last range
abbrev pub sweep_on_after : Sweep → Span → ℕ → ℕ → ℕ → Belief → Phase
sweep_on_after sweep last silences bads limit b =
    if nat_lt sweep.made limit then Sweeping (choose sweep.made silences bads last b)
    else search_whole (if is_whole last then silences else 0)

-- the same after what it asked
abbrev pub sweep_on : Sweep → ℕ → ℕ → ℕ → Belief → Phase
sweep_on sweep silences bads limit b = sweep_on_after sweep sweep.question.range silences bads limit b

-- whether the whole range was asked after a pass
abbrev pub is_last : Part → Bool
is_last Whole = true
is_last _ = false

-- what it asked collided, and then the last range was silent so often. If a pass found nothing, and the whole range
-- was asked again, too, the steady search begins
abbrev pub sweep_split : Sweep → Span → ℕ → ℕ → Phase
sweep_split sweep last silences limit =
    if is_last sweep.question.part && is_in_vain sweep.belief then search_whole 0
    else sweep_on_after sweep last silences 0 limit
    (believed_apart sweep.question.part sweep.question.range sweep.silences sweep.belief)

-- the agent after one more exchange, in this phase
abbrev pub to_phase : AgentState → Phase → AgentState
to_phase a phase = record {
  budget = a.budget;
  frames = a.frames + 1;
  search = a.search;
  found = a.found;
  apart = a.apart;
  more = a.more;
  phase = phase;
}

-- the same, and these UIDs are set apart, or there are more
abbrev pub to_apart : AgentState → List ℕ → Bool → Phase → AgentState
to_apart a us more phase = record {
  budget = a.budget;
  frames = a.frames + 1;
  search = a.search;
  found = a.found;
  apart = us;
  more = more;
  phase = phase;
}

-- a device is found, and this phase follows; one too many ends the run
abbrev pub to_found : AgentState → Device → Phase → AgentState
to_found a d phase =
    if has (found_uids a) d.uid then to_phase a phase
    else (if nat_lt (length (found_uids a)) MOST_DEVICES then record {
      budget = a.budget;
      frames = a.frames + 1;
      search = a.search;
      found = with_device d a.found;
      apart = without d.uid a.apart;
      more = a.more;
      phase = phase;
    }
    else to_phase a (Ended (Some TooMany)))

-- What a sweep asked was silent for the fifth time in a row. The whole range ends the run, and above another gap the
-- next one is searched. A UID that was set apart isn't any more
abbrev pub fifth_silence : Part → AgentState → Sweep → AgentState
fifth_silence Apart a sweep =
    to_apart a (without sweep.question.range.hi a.apart) a.more
    (sweep_on sweep 0 0 (sweep_limit (length a.found) (length (without sweep.question.range.hi a.apart)))
    (ask_turn (without sweep.question.range.hi a.apart) sweep.belief.turn sweep.belief))
fifth_silence _ a sweep =
    if is_whole sweep.question.range then to_phase a (Ended None)
    else to_phase a (sweep_on sweep 0 0 (limit_of a) (next_gap (sweep.belief.top + 1) a.apart sweep.belief))

-- what a sweep asked was silent
abbrev pub sweep_silent : AgentState → Sweep → AgentState
sweep_silent a sweep =
    if (sweep.silences + 1) == TRIES then fifth_silence sweep.question.part a sweep
    else to_phase a (sweep_on sweep (sweep.silences + 1) 0 (limit_of a)
    (believed_silent sweep.question.part sweep.question.range sweep.belief))

-- a UID alone that answered badly so often in a row is set apart
abbrev pub bads_aside : ℕ
bads_aside = 4

-- the UID that was asked alone is given up
abbrev pub given_up : ℕ → Sweep → ℕ → Phase
given_up limit sweep u = sweep_on sweep 0 bads_aside limit (give_up u sweep.belief)

-- the same for one more than can be set apart
abbrev pub put_aside : AgentState → Sweep → ℕ → AgentState
put_aside a sweep u = to_apart a a.apart true (given_up (limit_of a) sweep u)

-- The UID that was asked alone is set apart. It is given up instead if no device has it, or if too many are set apart
abbrev pub put_apart : AgentState → Sweep → ℕ → AgentState
put_apart a sweep u =
    if is_broadcast u then to_phase a (given_up (limit_of a) sweep u)
    else (if has_room a.apart then to_apart a (u ∷ a.apart) a.more
    (sweep_on sweep 0 bads_aside (sweep_limit (length a.found) (length (u ∷ a.apart)))
    (set_apart u (u ∷ a.apart) sweep.belief))
    else put_aside a sweep u)

-- whether a UID that was set apart, and then answered badly so often in a row, was asked often enough: seven times, but
-- for the first one that was set apart
abbrev pub is_turn_over : List ℕ → Sweep → ℕ → Bool
is_turn_over apart sweep bads = ((bads + 1) == BAD_ANSWERS) && nat_lt (sweep.belief.turn + 1) (length apart)

-- One UID that was asked alone answered badly so often in a row. It is asked again, or set apart. If it was set apart
-- before, it may be another one's turn
abbrev pub asks_on : Part → AgentState → Sweep → ℕ → AgentState
asks_on Apart a sweep bads =
    to_phase a (sweep_on sweep 0 bads (limit_of a)
    (if is_turn_over a.apart sweep bads then ask_turn a.apart (sweep.belief.turn + 1) sweep.belief else sweep.belief))
asks_on _ a sweep bads =
    if bads == bads_aside then put_apart a sweep sweep.question.range.hi
    else to_phase a (sweep_on sweep 0 bads (limit_of a) (end_answered sweep.belief))

-- the last bad answer in a row ends the run
abbrev pub badly_alone : AgentState → Sweep → ℕ → AgentState
badly_alone a sweep bads =
    if bads == BAD_ANSWERS then to_phase a (Ended (Some (Corrupt sweep.question.range.lo)))
    else asks_on sweep.question.part a sweep bads

-- what it asked was answered badly. A range of several UIDs collided
abbrev pub sweep_apart : AgentState → Sweep → AgentState
sweep_apart a sweep =
    if is_one sweep.question.range then badly_alone a sweep (sweep.bads + 1)
    else to_phase a (sweep_split sweep sweep.question.range 0 (limit_of a))

-- what follows a silence of the top range: the fifth in a row ends it
abbrev pub search_silent : ℕ → ℕ → Span → List Span → Phase
search_silent silences spent top below =
    if (silences + 1) == TRIES then search_below below else Searching (silences + 1) 0 spent top below

-- what follows if it spelt this UID: a new one is muted, if it comes soon enough
abbrev pub search_read : Search → List ℕ → ℕ → ℕ → Span → List Span → ℕ → Phase
search_read search found bads spent top below u =
    if is_new found top u && is_soon search top spent then MutingRead u 0 (spare_at search top bads) bads top below
    else search_apart search bads spent top below

-- the agent after a branch. Anything but silence and a new UID is a bad answer
abbrev pub branch_heard : AgentState → ℕ → ℕ → ℕ → Span → List Span → Heard → AgentState
branch_heard a silences bads spent top below Silent =
    to_phase a (search_silent silences (spent_more spent) top below)
branch_heard a silences bads spent top below (One u) =
    to_phase a (search_read a.search (found_uids a) (bads + 1) (spent_more spent) top below u)
branch_heard a silences bads spent top below _ =
    to_phase a (search_apart a.search (bads + 1) (spent_more spent) top below)

-- what follows a mute of a known UID that counts as a try: after the fifth it is given up
abbrev pub known_lost : Search → ℕ → ℕ → ℕ → List ℕ → Phase
known_lost search u tries spare known =
    if (tries + 1) == TRIES then search_from search known else MutingKnown u (tries + 1) spare known

-- the agent after the mute of a known UID. It is found if acknowledged
abbrev pub known_heard : AgentState → ℕ → ℕ → ℕ → List ℕ → Heard → AgentState
known_heard a u tries spare known (Acked ack) = to_found a (device_from u ack) (search_from a.search known)
known_heard a u tries spare known Silent = to_phase a (known_lost a.search u tries spare known)
known_heard a u tries spare known _ =
    to_phase a (if nat_lt 0 spare then MutingKnown u tries (spare - 1) known
    else known_lost a.search u tries spare known)

-- what follows a mute of a UID that was read, if it counts as a try. After the fifth, what spelt it was a bad answer,
-- and the range was asked often enough
abbrev pub mute_lost : Search → ℕ → ℕ → ℕ → ℕ → Span → List Span → Phase
mute_lost search u tries spare bads top below =
    if (tries + 1) == TRIES then search_apart search bads 10 top below
    else MutingRead u (tries + 1) spare bads top below

-- the agent after the mute of a UID that was read. It is found if acknowledged
abbrev pub mute_heard : AgentState → ℕ → ℕ → ℕ → ℕ → Span → List Span → Heard → AgentState
mute_heard a u tries spare bads top below (Acked ack) = to_found a (device_from u ack) (Searching 0 0 0 top below)
mute_heard a u tries spare bads top below Silent = to_phase a (mute_lost a.search u tries spare bads top below)
mute_heard a u tries spare bads top below _ =
    to_phase a (if nat_lt 0 spare then MutingRead u tries (spare - 1) bads top below
    else mute_lost a.search u tries spare bads top below)

-- whether a sweep asked a UID alone for the last time
abbrev pub is_last_answer : Sweep → Bool
is_last_answer sweep = (sweep.bads + 1) == BAD_ANSWERS

-- whether the UID that a sweep's branch spelt is muted: not if that was in vain before, but always at the last answer
abbrev pub is_wanted : List ℕ → Sweep → ℕ → Bool
is_wanted found sweep u =
    is_new found sweep.question.range u && (not (is_suspect sweep.belief.suspect u) || is_last_answer sweep)

-- how many garbled replies to its mutes needn't be counted: none after the last answer
abbrev pub spare_of_answer : Sweep → ℕ
spare_of_answer sweep = if is_last_answer sweep then 0 else garbled_mutes

-- whether the UID that a sweep's branch spelt may be a device's outside the range, that wasn't found, given up or set
-- apart
abbrev pub is_outside : List ℕ → List ℕ → Sweep → ℕ → Bool
is_outside found apart sweep u =
    (nat_le u last_uid && not (is_broadcast u))
    && (not (is_within sweep.question.range.lo sweep.question.range.hi u)
    && (not (has found u) && (not (has apart u) && not (is_suspect sweep.belief.suspect u))))

-- whether it is checked: it is due. If one UID was asked alone, another one is a bad answer
abbrev pub is_stray : List ℕ → List ℕ → Sweep → ℕ → Bool
is_stray found apart sweep u =
    is_outside found apart sweep u && (not (is_one sweep.question.range) && is_due sweep.belief)

-- the agent after a branch of a sweep that spelt this UID
abbrev pub sweep_spelt : AgentState → Sweep → ℕ → AgentState
sweep_spelt a sweep u =
    if is_wanted (found_uids a) sweep u then to_phase a (MutingSwept u 0 (spare_of_answer sweep) sweep)
    else (if is_stray (found_uids a) a.apart sweep u then to_phase a (Checking u 0 sweep) else sweep_apart a sweep)

-- the agent after a branch of a sweep
abbrev pub sweep_heard : AgentState → Sweep → Heard → AgentState
sweep_heard a sweep Silent = sweep_silent a (counted_silent sweep)
sweep_heard a sweep (One u) = sweep_spelt a (counted_spelt u sweep) u
sweep_heard a sweep _ = sweep_apart a (counted sweep)

-- the agent after a mute of a UID that a sweep read, if it counts as a try: after the fifth what spelt it was a bad
-- answer. A series of mutes is never cut short
abbrev pub swept_lost : AgentState → ℕ → ℕ → ℕ → Sweep → AgentState
swept_lost a u tries spare sweep =
    if (tries + 1) == TRIES then sweep_apart a (sweep_suspecting u sweep)
    else to_phase a (MutingSwept u (tries + 1) spare sweep)

-- what a sweep believes after it found this UID. If that was set apart, it is another one's turn
abbrev pub found_belief : Part → ℕ → List ℕ → Sweep → Belief
found_belief Apart u us sweep = ask_turn (without u us) sweep.belief.turn sweep.belief
found_belief part u us sweep = believed_found part sweep.question.range sweep.belief

-- the agent after the mute of a UID that a sweep read. It is found if acknowledged. If it was set apart, it still
-- counts in the limit of this step
abbrev pub swept_heard : AgentState → ℕ → ℕ → ℕ → Sweep → Heard → AgentState
swept_heard a u tries spare sweep (Acked ack) =
    to_found a (device_from u ack)
    (sweep_on (counted sweep) 0 0 (sweep_limit (length a.found + 1) (length a.apart))
    (found_belief sweep.question.part u a.apart sweep))
swept_heard a u tries spare sweep Silent = swept_lost a u tries spare (counted sweep)
swept_heard a u tries spare sweep _ =
    if nat_lt 0 spare then to_phase a (MutingSwept u tries (spare - 1) (counted sweep))
    else swept_lost a u tries spare (counted sweep)

-- what follows a silence of the check
abbrev pub check_silent : ℕ → ℕ → Sweep → ℕ → Phase
check_silent u silences sweep limit =
    if is_checked_again sweep.belief silences then Checking u (silences + 1) sweep
    else sweep_split sweep unassigned (silences + 1) limit

-- and what follows if it spelt another UID, or this one
abbrev pub check_spelt : ℕ → ℕ → Sweep → ℕ → Phase
check_spelt u v sweep limit =
    if v == u then MutingStray u 0 garbled_mutes sweep else sweep_split sweep unassigned 0 limit

-- the agent after a check whether this UID answers for others, too. If it does it is muted. Anything else means that
-- what the sweep asked collided
abbrev pub check_heard : AgentState → ℕ → ℕ → Sweep → Heard → AgentState
check_heard a u silences sweep Silent = to_phase a (check_silent u silences (counted_silent sweep) (limit_of a))
check_heard a u silences sweep (One v) = to_phase a (check_spelt u v (counted sweep) (limit_of a))
check_heard a u silences sweep _ = to_phase a (sweep_split (counted sweep) unassigned 0 (limit_of a))

-- what follows a mute of a UID that answers for others, if it counts as a try: after the fifth the sweep gives the UID
-- up, and what it asked collided
abbrev pub stray_lost : ℕ → ℕ → ℕ → Sweep → ℕ → Phase
stray_lost u tries spare sweep limit =
    if (tries + 1) == TRIES then sweep_split (sweep_suspecting u sweep) unassigned 0 limit
    else MutingStray u (tries + 1) spare sweep

-- the agent after the mute of a UID that answers for others, too. If it is found the same is asked again
abbrev pub stray_heard : AgentState → ℕ → ℕ → ℕ → Sweep → Heard → AgentState
stray_heard a u tries spare sweep (Acked ack) =
    to_found a (device_from u ack)
    (sweep_on (counted sweep) 0 0 (sweep_limit (length a.found + 1) (length a.apart)) (stray_found sweep.belief))
stray_heard a u tries spare sweep Silent = to_phase a (stray_lost u tries spare (counted sweep) (limit_of a))
stray_heard a u tries spare sweep _ =
    to_phase a (if nat_lt 0 spare then MutingStray u tries (spare - 1) (counted sweep)
    else stray_lost u tries spare (counted sweep) (limit_of a))

-- the agent after this was heard in this phase, if the line didn't fail
abbrev pub heard_by_phase : AgentState → Phase → Heard → AgentState
heard_by_phase a (Unmuting more known) heard =
    to_phase a (if nat_lt 1 more then Unmuting (more - 1) known else search_from a.search known)
heard_by_phase a (MutingKnown u tries spare known) heard = known_heard a u tries spare known heard
heard_by_phase a (Searching silences bads spent top below) heard = branch_heard a silences bads spent top below heard
heard_by_phase a (MutingRead u tries spare bads top below) heard = mute_heard a u tries spare bads top below heard
heard_by_phase a (Sweeping sweep) heard = sweep_heard a sweep heard
heard_by_phase a (MutingSwept u tries spare sweep) heard = swept_heard a u tries spare sweep heard
heard_by_phase a (Checking u silences sweep) heard = check_heard a u silences sweep heard
heard_by_phase a (MutingStray u tries spare sweep) heard = stray_heard a u tries spare sweep heard
heard_by_phase a (Ended fault) heard = a

-- the agent after a reply
abbrev pub fed : AgentState → Heard → AgentState
fed a Failed = to_phase a (Ended (Some LineFailed))
fed a Silent = heard_by_phase a a.phase Silent
fed a (One u) = heard_by_phase a a.phase (One u)
fed a (Acked ack) = heard_by_phase a a.phase (Acked ack)
fed a Noise = heard_by_phase a a.phase Noise

-- a becomes b by these exchanges, each of which it asked
abbrev pub Runs : AgentState → List Seen → AgentState → Type 0
Runs a [] b = b ≡ a
Runs a (x ∷ xs) b = (next_of a ≡ Some x.asked) × Runs (fed a x.heard) xs b

-- the fault of an agent that asks nothing more
abbrev pub fault_of : Phase → Option AgentFault
fault_of (Ended fault) = fault
fault_of _ = Some Exhausted

-- the number of open ranges: one before the steady search, the whole range
abbrev pub open_ranges : Phase → ℕ
open_ranges (Unmuting more known) = 1
open_ranges (MutingKnown u tries spare known) = 1
open_ranges (Searching silences bads spent top below) = length below + 1
open_ranges (MutingRead u tries spare bads top below) = length below + 1
open_ranges (Sweeping sweep) = 1
open_ranges (MutingSwept u tries spare sweep) = 1
open_ranges (Checking u silences sweep) = 1
open_ranges (MutingStray u tries spare sweep) = 1
open_ranges (Ended fault) = 0

-- the agent after a list of replies
abbrev pub fed_all : AgentState → List Heard → AgentState
fed_all a replies = fold fed a replies
