-- Which answers may be incomplete: the first to a GET after one that asked for the same broke off.
--
-- A device gives a long answer in parts (E1.20, ACK_OVERFLOW), and goes on at its next GET where it stopped. If a part
-- is lost, whoever asks for the same next gets only the rest, as an answer that looks complete.
use Rattle.std.specs.Prelude.{ℕ, Bool, true, false, ◌&&◌, List, [], ◌∷◌, ◌++◌, Option, Some, None, ◌==◌}
use Rattle.std.specs.Prelude.{if◌then◌else◌, option_and_then, option_map, slice_get}
use Rattle.std.specs.List.{list_any}
use Rattle.rdm_wire.specs.declared.request.Request.{Request}
use Rattle.rdm_wire.specs.declared.request.ReqClass.{ReqClass}
use Rattle.rdm_wire.specs.declared.request.ReqClass.TheVariants as requests
use Rattle.rdm_wire.specs.declared.response.AckType.{AckType}
use Rattle.rdm_wire.specs.declared.response.AckType.TheVariants.{Ack}
use Rattle.rdm_join.specs.declared.joiner.ReplyHead.{ReplyHead}
use Rattle.rdm_join.specs.declared.status.Status.{Status}
use Rattle.rdm_join.specs.declared.status.Status.TheVariants.{Completed, WasBroadcast, NoMemory}
use Rattle.rdm_log.specs.declared.broken.AnswerKey.{AnswerKey}
use Rattle.rdm_log.specs.declared.entry.Opening.{Opening}
use Rattle.rdm_log.specs.declared.entry.Entry.{Entry}
use Rattle.rdm_log.specs.declared.entry.Entry.TheVariants.{Finish}
use Rattle.rdm_log.specs.log.BrokenKeys.{BrokenKeys, is_open, with_open, with_closed}
use Rattle.rdm_log.specs.log.Entries.{Accepted, result}
use Rattle.rdm_log.specs.log.History.{unfinished, was_sent}
use Rattle.rdm_log.specs.log.Clients.{uncollected}

-- what a request asks for, if it is a GET
abbrev pub key_if : ReqClass → AnswerKey → Option AnswerKey
key_if requests.Get key = Some key
key_if requests.Set key = None

-- the same of a whole request
abbrev pub key_of : Request → Option AnswerKey
key_of request =
    key_if request.class (record { target = request.target; sub_device = request.sub_device; pid = request.pid })

-- whether a response says that it is the whole answer, or the last part of it
abbrev pub is_ack : AckType → Bool
is_ack Ack = true
is_ack _ = false

-- whether a request that ends with this status, and this head of its last reply, has read its answer to the end
abbrev pub is_whole : Status → Option ReplyHead → Bool
is_whole Completed (Some head) = is_ack head.ack
is_whole _ _ = false

-- Whether a request that ends with this status broke off, if a frame was sent for it. With NoMemory its reply came, and
-- nobody answers a broadcast.
abbrev pub breaks_off : Status → Bool
breaks_off Completed = false
breaks_off NoMemory = false
breaks_off WasBroadcast = false
breaks_off _ = true

-- the keys after the end of a GET with this key
abbrev pub after_get : AnswerKey → Bool → Status → Option ReplyHead → BrokenKeys → BrokenKeys
after_get key sent status head b =
    if is_whole status head then with_closed key b
    else if sent && breaks_off status then with_open key b
    else b

-- the same for any request: a SET changes nothing
abbrev pub after_end : Option AnswerKey → Bool → Status → Option ReplyHead → BrokenKeys → BrokenKeys
after_end None sent status head b = b
after_end (Some key) sent status head b = after_get key sent status head b

-- whether the answer of a request that ends like this may lack its first parts: it is whole, but its key was open
abbrev pub is_end_flagged : Option AnswerKey → Status → Option ReplyHead → BrokenKeys → Bool
is_end_flagged None status head b = false
is_end_flagged (Some key) status head b = is_whole status head && is_open b key

-- the key of the oldest unfinished request, which a Finish ends
abbrev pub key_of_first : List Accepted → Option AnswerKey
key_of_first waiting = option_and_then (λ a. key_of a.request) (slice_get waiting 0)

-- the head of a request's last reply
abbrev pub head_of_result : ℕ → List Entry → Option ReplyHead
head_of_result n h = option_and_then (λ j. j.head) (result n h)

-- the open keys, and the requests whose answers may be incomplete
pub record Incomplete : Type 0 where
  pub keys : BrokenKeys
  pub flagged : List ℕ

-- the flagged requests and this one, or without it
abbrev pub flags_more : Bool → ℕ → List ℕ → List ℕ
flags_more true n flagged = flagged ++ n ∷ []
flags_more false n flagged = flagged

-- the same after a Finish that follows h
abbrev pub after_finish : List Entry → ℕ → Status → Incomplete → Incomplete
after_finish h n status i =
    let key = key_of_first (unfinished h) in
    let head = head_of_result n h in
    record {
      keys = after_end key (was_sent n h) status head i.keys;
      flagged = flags_more (is_end_flagged key status head i.keys) n i.flagged;
    }

-- no other entry changes them
abbrev pub after_entry : List Entry → Entry → Incomplete → Incomplete
after_entry h (Finish n status len) i = after_finish h n status i
after_entry h _ i = i

-- after the entries of the second list, which follow those of the first
unfoldable pub after_entries : List Entry → List Entry → Incomplete → Incomplete
after_entries front [] i = i
after_entries front (e ∷ back) i = after_entries (front ++ e ∷ []) back (after_entry front e i)

-- what a log says: from the keys that were open before its first entry
abbrev pub incomplete : Opening → List Entry → Incomplete
incomplete o h = after_entries [] h (record { keys = o.broken; flagged = [] })

-- the keys that are open
abbrev pub broken_keys : Opening → List Entry → BrokenKeys
broken_keys o h = (incomplete o h).keys

-- whether an entry is the Finish of one of these requests
abbrev pub is_flagged : List ℕ → Entry → Bool
is_flagged flagged (Finish n status len) = list_any (λ m. n == m) flagged
is_flagged flagged _ = false

-- whether the answer that an entry reports may be incomplete
abbrev pub may_be_incomplete : Opening → List Entry → Entry → Bool
may_be_incomplete o h e = is_flagged (incomplete o h).flagged e

-- the same for the client's oldest uncollected outcome
abbrev pub oldest_may_be_incomplete : Opening → List Entry → ℕ → Option Bool
oldest_may_be_incomplete o h c = option_map (may_be_incomplete o h) (slice_get (uncollected o c h) 0)
