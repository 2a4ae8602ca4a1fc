-- What a sweep believes about the UIDs, and what it asks.
use Rattle.std.specs.Prelude.{ℕ, ◌+◌, ◌-◌, ◌*◌, ◌/◌, Bool, true, false, ◌&&◌, ◌||◌, not}
use Rattle.std.specs.Prelude.{Option, Some, None, ◌==◌, nat_lt, if◌then◌else◌, min, max}
use Rattle.rdm_wire.specs.Span.{Span, whole}
use Rattle.rdm_wire.specs.Uid.{is_within}
use Rattle.rdm_agent.specs.declared.belief.Belief.{Belief}
use Rattle.rdm_agent.specs.declared.belief.Question.{Question}
use Rattle.rdm_agent.specs.declared.belief.Part.{Part}
use Rattle.rdm_agent.specs.declared.belief.Part.TheVariants.{Fresh, Lower, Rest, All, Whole, End, Apart, Spelt}
use Rattle.rdm_agent.specs.declared.belief.Alone.{Alone}
use Rattle.rdm_agent.specs.declared.belief.Alone.TheVariants as alone

-- whether a sweep remembers this UID
abbrev pub is_suspect : Option ℕ → ℕ → Bool
is_suspect None u = false
is_suspect (Some v) u = v == u

-- whether a range is of one UID
abbrev pub is_one : Span → Bool
is_one r = r.lo == r.hi

-- how many UIDs there are
abbrev pub all_uids : ℕ
all_uids = 0x1000000000000

-- the greatest UID
abbrev pub last_uid : ℕ
last_uid = 0xffffffffffff

-- the UIDs from lo to hi, up to the greatest UID; hi alone if lo is above it
abbrev pub spanning : ℕ → ℕ → Span
spanning lo hi = record { lo = min lo (min hi last_uid); hi = min hi last_uid }

-- A sweep searches from UID 0 upward. What it believes:
-- - The UIDs from base to at - 1 were swept: they were silent, or what answered is muted.
-- - The range from lo to end answered, and has at least need devices that aren't found (0, 1 or 2). If need is 0, there
--   is no such range.
-- On an honest line an answer is certain, and a silence may be a loss. So a sweep remembers the range that answered,
-- and searches it again if silences contradict it. The definitions below say how it chooses what it asks, and what it
-- believes after a silence, after one device and after a collision. The certificate and the bound need only this of
-- them:
-- - it asks ranges of UIDs, and mutes only what a range has just shown;
-- - five silences in a row of the whole range end the run, and no other range is silent five times in a row;
-- - its exchanges are limited.
-- Some UIDs may be set apart, which can't be read or muted. Then it searches the gaps between them like the whole
-- range, one after the other; it is in that from gap to top.
abbrev pub first_belief : Belief
first_belief = record {
  base = 0;
  lo = 0;
  at = 0;
  end = last_uid;
  need = 0;
  width = all_uids;
  growth = 2;
  quiet = 0;
  begun = 0;
  back = 1;
  gap = 0;
  top = last_uid;
  alone = alone.No;
  turn = 0;
  suspect = None;
  found_nothing = false;
  again = false;
  level = 0;
  doubt = 0;
  spelt = None;
  times = 0;
  due = 0;
  hushed = false;
}

-- whether two ranges are the same
abbrev pub is_same : Span → Span → Bool
is_same r q = (r.lo == q.lo) && (r.hi == q.hi)

-- whether a range is the whole one
abbrev pub is_whole : Span → Bool
is_whole r = is_same r whole

-- the gap, which is the whole range if no UID is set apart. Another gap doesn't have the greatest UID: five silences in
-- a row of a range with it would be the certificate
abbrev pub all_of : Belief → Span
all_of b = if b.top == last_uid then whole else spanning b.gap (min b.top (last_uid - 1))

-- the UIDs from lo to hi, up to the end of the gap
abbrev pub in_gap : Belief → ℕ → ℕ → Span
in_gap b lo hi = spanning lo (min hi b.top)

-- CHOOSE. A fresh range is the next one that wasn't swept. It also looks back as far as ahead: a device that was
-- missed just before answers now. The last one looks back to the start, so that its silence is one of the whole range
abbrev pub fresh_range : Belief → Span
fresh_range b =
    in_gap b (if nat_lt b.top (b.at + b.width) then b.base else max b.base (b.at - b.width)) (b.at + (b.width - 1))

-- If no range has answered, a fresh one is asked. If the range that answered has one more device, all of it is asked
-- again, since an answer is certain. If it has two, the lower half of what is left is asked. After three silences in a
-- row all that is left is asked
abbrev pub part_of : Belief → Question
part_of b =
    if b.need == 0 then record { part = Fresh; range = fresh_range b }
    else (if b.need == 1 then record { part = All; range = in_gap b b.lo b.end }
    else (if nat_lt b.lo b.at && nat_lt 2 b.quiet then record { part = Rest; range = in_gap b b.at b.end }
    else record { part = Lower; range = in_gap b b.at (b.at + (b.end - b.at) / 2) }))

-- One UID is asked together with UIDs below it, which were swept, because some of them may have been missed. It is
-- asked alone if those below it were given up
abbrev pub with_lower : Belief → Question → Question
with_lower b q =
    if is_one q.range
    then record { part = q.part; range = spanning (max b.base (q.range.hi - b.back)) q.range.hi } else q

-- what a sweep asks in a gap; after a pass this is all of it
abbrev pub swept : Belief → Question
swept b =
    if nat_lt (min b.top last_uid) b.at then record { part = Whole; range = all_of b }
    else with_lower b (part_of b)

-- the UID that was spelt last
abbrev pub spelt_last : Option ℕ → ℕ
spelt_last None = last_uid
spelt_last (Some u) = u

-- the end of the range that answered alone, a UID that was set apart alone, which isn't the greatest UID, or the UID
-- that was spelt last alone
abbrev pub asked_alone : Alone → Belief → Question
asked_alone alone.No b = swept b
asked_alone alone.End b = record { part = End; range = spanning b.end b.end }
asked_alone alone.Apart b =
    record { part = Apart; range = spanning (min b.end (last_uid - 1)) (min b.end (last_uid - 1)) }
asked_alone alone.Spelt b = record { part = Spelt; range = spanning (spelt_last b.spelt) (spelt_last b.spelt) }

-- what a sweep asks
abbrev pub question : Belief → Question
question b = asked_alone b.alone b

-- whether it asks a UID alone for that UID's sake
abbrev pub is_alone : Alone → Bool
is_alone alone.No = false
is_alone _ = true

-- whether it asks the UID that was spelt last alone
abbrev pub asks_spelt : Alone → Bool
asks_spelt alone.Spelt = true
asks_spelt _ = false

-- a belief that asks no UID alone
abbrev pub unasked : Belief → Belief
unasked b = record b { alone = alone.No }

-- BEGIN AGAIN. One silence in the range that answered was a loss, so the range is swept again
abbrev pub begin_again : Belief → Belief
begin_again b = record b { at = b.lo; quiet = 0; begun = min (b.begun + 1) 4 }

-- A UID is given up, since its range answers and can't be searched. The sweep goes on above it, and doesn't look back
-- to it in this pass. If it was asked alone because it was spelt, it just isn't asked alone any more
abbrev pub give_up : ℕ → Belief → Belief
give_up u b =
    if asks_spelt b.alone then unasked b
    else record b {
      base = u + 1;
      lo = u + 1;
      at = u + 1;
      need = 0;
      width = 2;
      growth = 2;
      quiet = 0;
      begun = 0;
      alone = alone.No;
    }

-- the end of the range that answered is asked alone
abbrev pub ask_end : Belief → Belief
ask_end b = record b { alone = alone.End; quiet = 0; suspect = None }

-- If at most one UID is left of a range that has two devices, the range is searched again. The fourth time its last UID
-- is asked alone
abbrev pub restarted : Belief → Belief
restarted b =
    if is_alone b.alone || (not (b.need == 2) || (not (nat_lt b.lo b.at) || nat_lt b.at b.end)) then b
    else (if nat_lt (b.begun + 1) 4 then begin_again b else ask_end b)

-- UID 0 alone isn't asked, since no UID is below it. The whole range asks it at the end. It may be one of the two
abbrev pub past_zero : Belief → Belief
past_zero b =
    if ((question b).range.hi == 0) && (nat_lt 0 b.top && not (is_alone b.alone))
    then record b { base = 1; lo = 1; at = 1; need = b.need / 2 } else b

-- what a sweep believes when it asks
abbrev pub ready : Belief → Belief
ready b = past_zero (restarted b)

-- NOISE. Noise may be taken for an answer. A sweep judges by the noise level, from 0 to 31, how likely that is: only
-- while it isn't 0, a range is asked again after a bad answer. So a line without noise has no such questions
abbrev pub louder : ℕ → Belief → Belief
louder n b = record b { level = min (b.level + n) 31 }

-- a belief once the bad answer that was doubted, if any, proves to be noise
abbrev pub settled : Belief → Belief
settled b = if b.doubt == 0 then b else record (louder 4 b) { doubt = 0 }

-- The sweep continues above this range, which was silent four times in a row after it had answered: that was noise, or
-- replies were lost. The next range is as wide as what answered
abbrev pub above : Span → Belief → Belief
above r b = record (louder 16 b) {
  lo = r.hi + 1;
  at = r.hi + 1;
  need = 0;
  width = max (r.hi + 1 - b.lo) 1;
  growth = 2;
  quiet = 0;
  begun = 0;
  alone = alone.No;
}

-- SILENT. A fresh range: the next one begins above it. It is 2, 4, 16, 256, .. times as wide, so that a gap is crossed
-- in a few frames
abbrev pub fresh_silent : Span → Belief → Belief
fresh_silent r b = record b {
  at = r.hi + 1;
  width = min (b.width * b.growth) all_uids;
  growth = min (b.growth * b.growth) 0x100000000;
}

-- a lower half: the devices are above it
abbrev pub lower_silent : Span → Belief → Belief
lower_silent r b = record b { at = r.hi + 1; quiet = min (b.quiet + 1) 3 }

-- all that is left: something was lost. From the second time on, and on a noisy line, all of the range that answered is
-- asked first, since noise may have been taken for an answer
abbrev pub rest_silent : Belief → Belief
rest_silent b = record (begin_again b) { need = if (b.begun == 0) && (b.level == 0) then b.need else 1 }

-- the end of the range that answered alone: the second time in a row that UID is given up
abbrev pub end_silent : Belief → Belief
end_silent b = if b.quiet == 0 then record b { quiet = 1 } else give_up b.end b

-- any UID that was answered badly alone: silences aren't in a row
abbrev pub end_answered : Belief → Belief
end_answered b = if is_alone b.alone then record b { quiet = 0 } else b

-- after a silence of this part and range that is believed. All of the range that answered is just asked again
abbrev pub part_silent : Part → Span → Belief → Belief
part_silent Fresh r b = fresh_silent r b
part_silent Lower r b = lower_silent r b
part_silent Rest r b = rest_silent b
part_silent All r b = b
part_silent Whole r b = record b { again = false }
part_silent End r b = end_silent b
part_silent Apart r b = b
part_silent Spelt r b = b

-- after a silence of this part and range. If it was asked again after a bad answer, only a second silence is believed.
-- If a UID was asked alone because it was spelt, the search goes on where it was
abbrev pub believed_silent : Part → Span → Belief → Belief
believed_silent part r b =
    if asks_spelt b.alone then unasked b
    else (if b.doubt == 1 then record b { doubt = 2 } else part_silent part r (settled b))

-- ONE. A device was found and muted, and nothing else answered. What was counted since the last find begins at 0 again
abbrev pub renewed : Belief → Belief
renewed b = record (settled b) { growth = 2; quiet = 0; begun = 0; back = 1; found_nothing = false; again = false }

-- in a fresh range: the next one begins above it
abbrev pub fresh_found : Span → Belief → Belief
fresh_found r b = record b { lo = r.hi + 1; at = r.hi + 1 }

-- in a lower half: the range that answered has one more, above it unless something was lost below. The next width is
-- three quarters of the last one, but at least that of this find, and at most eight times that
abbrev pub lower_found : Span → Belief → Belief
lower_found r b = record b {
  lo = if b.at == b.lo then r.hi + 1 else b.lo;
  at = r.hi + 1;
  need = 1;
  width = max (r.hi + 1 - b.at) (min (8 * (r.hi + 1 - b.at)) (b.width / 4 * 3));
}

-- in all that is left: the other one is below, where a silence was a loss
abbrev pub rest_found : Belief → Belief
rest_found b = record b { at = b.lo; end = b.at - 1; need = 1 }

-- in the range that answered: that was the last one
abbrev pub all_found : Belief → Belief
all_found b = record b {
  lo = b.end + 1;
  at = b.end + 1;
  need = 0;
  width = min b.width (8 * (b.end + 1 - b.lo));
}

-- after a device was found in this part and range
abbrev pub believed_found : Part → Span → Belief → Belief
believed_found Fresh r b = fresh_found r (renewed b)
believed_found Lower r b = lower_found r (renewed b)
believed_found Rest r b = rest_found (renewed b)
believed_found All r b = all_found (renewed b)
believed_found Whole r b = renewed b
believed_found End r b = record (all_found (renewed b)) { alone = alone.No }
believed_found Apart r b = b
believed_found Spelt r b = unasked (renewed b)

-- COLLISION. The range has two devices, and is searched from this UID on. What is above it is forgotten
abbrev pub split_at : ℕ → ℕ → ℕ → Span → Belief → Belief
split_at at begun back r b = record b {
  lo = r.lo;
  at = at;
  end = r.hi;
  need = 2;
  growth = 2;
  quiet = 0;
  begun = begun;
  back = back;
}

-- a lower half or all that is left. If UIDs below it were asked too, some devices were missed there, and the next
-- single UID is asked with four times as many
abbrev pub lower_apart : Span → Belief → Belief
lower_apart r b =
    split_at r.lo 0 (if nat_lt r.lo b.at then min (4 * b.back) 0x400000000000 else b.back) r b

-- all of the range that answered
abbrev pub all_apart : Span → Belief → Belief
all_apart r b = split_at (if nat_lt r.hi b.at then r.lo else b.at) b.begun b.back r b

-- Whether the whole range, which was silent so often in a row and then answered badly, is asked again first: once, if
-- noise is likely
abbrev pub asks_whole_again : ℕ → Belief → Bool
asks_whole_again silences b = not b.again && (nat_lt 0 b.level || (b.found_nothing || nat_lt 1 silences))

-- the whole range after a pass: something was missed, and another pass begins
abbrev pub next_pass : Span → Belief → Belief
next_pass r b = record (split_at b.gap 0 b.back r b) {
  base = b.gap;
  width = all_uids;
  suspect = None;
  found_nothing = true;
  again = false;
}

-- the whole range after a pass: it is asked again first if noise is likely; otherwise another pass begins
abbrev pub whole_apart : Span → ℕ → Belief → Belief
whole_apart r silences b = if asks_whole_again silences b then record b { again = true } else next_pass r b

-- whether a pass found nothing, and the whole range was asked again, too
abbrev pub is_in_vain : Belief → Bool
is_in_vain b = b.found_nothing && b.again

-- whether another range is asked again first after a bad answer
abbrev pub is_doubted : Belief → Bool
is_doubted b = nat_lt 0 b.level && (b.doubt == 0)

-- a belief that doubts a bad answer, so that its range is asked again
abbrev pub doubting : Belief → Belief
doubting b = record b { doubt = 1 }

-- a belief once the answer that was doubted, if any, came again: it is believed, and the line counts as less noisy
abbrev pub convinced : Belief → Belief
convinced b = if b.doubt == 0 then b else record b { doubt = 0; level = b.level - 1 }

-- a fresh range
abbrev pub fresh_apart : Span → Belief → Belief
fresh_apart r b = split_at b.at 0 b.back r b

-- after a collision in this part and range, which had been silent so often in a row, whichever UIDs were spelt
abbrev pub part_apart : Part → Span → ℕ → Belief → Belief
part_apart Fresh r silences b = if is_doubted b then doubting b else fresh_apart r (convinced b)
part_apart Lower r silences b = if is_doubted b then doubting b else lower_apart r (convinced b)
part_apart Rest r silences b = if is_doubted b then doubting b else lower_apart r (convinced b)
part_apart All r silences b = all_apart r b
part_apart Whole r silences b = whole_apart r silences b
part_apart End r silences b = b
part_apart Apart r silences b = b
part_apart Spelt r silences b = b

-- SPELT IN SPITE OF MUTES. If a range spells a UID for the fourth time in a row, its device breaks the rules, its mutes
-- were lost, or colliding replies spell it. So the UID is asked alone next. After four bad answers it is set apart,
-- unless no device may have it, or 16 are. After a silence it isn't asked alone any more

-- whether the UID that was spelt last is in this range
abbrev pub is_spelt_within : Option ℕ → Span → Bool
is_spelt_within None r = false
is_spelt_within (Some u) r = is_within r.lo r.hi u

-- whether the UID that was spelt last is in this range, was read four times in a row, and wasn't asked alone for it yet
abbrev pub is_spelt_often : Span → Belief → Bool
is_spelt_often r b = (b.times == 4) && ((b.due == 4) && is_spelt_within b.spelt r)

-- a belief that asks the UID that was spelt last alone, and won't do so at its next readings
abbrev pub asking_spelt : Belief → Belief
asking_spelt b = record b { alone = alone.Spelt; due = 8 }

-- after a collision in this part and range, as before, but a UID of the range that was spelt often is asked alone first
abbrev pub believed_apart : Part → Span → ℕ → Belief → Belief
believed_apart part r silences b =
    if is_spelt_often r b then asking_spelt (part_apart part r silences b) else part_apart part r silences b

-- a belief that gives up this UID
abbrev pub suspecting : ℕ → Belief → Belief
suspecting u b = record b { suspect = Some u }

-- STRAYS. A device that breaks the rules may reply to branches of ranges that it isn't in. So a sweep counts how often
-- in a row it read the same UID, and remembers whether any branch was silent. A UID is due at its first reading, the
-- second, the fourth, the eighth ..
abbrev pub most_times : ℕ
most_times = 0x100000

-- a belief after the UID that was spelt last was read once more
abbrev pub spelt_again : Belief → Belief
spelt_again b = record b {
  times = min (b.times + 1) most_times;
  due = if nat_lt b.times b.due then b.due else 2 * b.times;
}

-- a belief after a branch was silent
abbrev pub hushing : Belief → Belief
hushing b = record b { hushed = true }

-- A belief after a branch spelt this UID. If the UID that was spelt before is asked alone, it isn't any more
abbrev pub hearing : ℕ → Belief → Belief
hearing u b =
    if is_suspect b.spelt u then spelt_again b
    else record b {
      spelt = Some u;
      times = 1;
      due = 1;
      alone = if asks_spelt b.alone then alone.No else b.alone;
    }

-- whether the UID that was spelt last is due; the first reading counts only if no branch was silent so far
abbrev pub is_due : Belief → Bool
is_due b = (b.times == b.due) && (nat_lt 1 b.times || not b.hushed)

-- whether the check that was silent so often is made again: after the eighth reading, once
abbrev pub is_checked_again : Belief → ℕ → Bool
is_checked_again b silences = (silences == 0) && nat_lt 7 b.times

-- a belief after a device was found outside of what was asked
abbrev pub stray_found : Belief → Belief
stray_found b = record (settled b) { found_nothing = false; again = false }
