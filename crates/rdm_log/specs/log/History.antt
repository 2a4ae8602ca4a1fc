-- What a log says so far: its flags, the next numbers, what is unfinished, and how many entries are free.
use Rattle.std.specs.Prelude.{ℕ, ◌+◌, ◌-◌, ◌*◌, ◌%◌, Bool, true, false, ◌&&◌, ◌||◌, not, List, ◌++◌, length, drop}
use Rattle.std.specs.Prelude.{fold, filter, ◌==◌, if◌then◌else◌}
use Rattle.std.specs.List.{list_any}
use Rattle.rdm_log.specs.declared.entry.Opening.{Opening}
use Rattle.rdm_log.specs.declared.entry.Entry.{Entry}
use Rattle.rdm_log.specs.declared.entry.Entry.TheVariants.{Send, Came, Pause, Resume, Close}
use Rattle.rdm_log.specs.log.Entries.{Accepted, AskedDiscovery, joins, accepts, asks, sends, finishes, answers}
use Rattle.rdm_log.specs.log.Entries.{collectors, is_request}

-- whether a reply is awaited after an entry: a Send sets it, and a Came clears it
abbrev pub awaits_after : Bool → Entry → Bool
awaits_after b (Send owner frame) = true
awaits_after b (Came event) = false
awaits_after b _ = b

-- whether sending is paused after an entry: a Pause sets it, and a Resume clears it
abbrev pub paused_after : Bool → Entry → Bool
paused_after b Pause = true
paused_after b Resume = false
paused_after b _ = b

-- whether the queue is closed after an entry: a Close sets it, and nothing clears it
abbrev pub closed_after : Bool → Entry → Bool
closed_after b Close = true
closed_after b _ = b

-- whether a reply is awaited: the last Send has no Came after it
unfoldable pub awaited : List Entry → Bool
awaited h = fold awaits_after false h

-- whether sending is paused: the last Pause or Resume decides, or the opening if there is neither
unfoldable pub is_paused : Opening → List Entry → Bool
is_paused o h = fold paused_after o.paused h

-- whether the queue is closed: a Close closed it, or it was closed in the opening
unfoldable pub is_closed : Opening → List Entry → Bool
is_closed o h = fold closed_after o.closed h

-- whether a pause has an effect: sending is neither paused nor closed
abbrev pub can_pause : Opening → List Entry → Bool
can_pause o h = not (is_paused o h || is_closed o h)

-- whether a resume has an effect: sending is paused and not closed
abbrev pub can_resume : Opening → List Entry → Bool
can_resume o h = is_paused o h && not (is_closed o h)

-- the queue depth (`places`) of each client, in the order of their numbers
abbrev pub places : Opening → List Entry → List ℕ
places o h = o.places.items ++ joins h

-- the number of the next client
abbrev pub next_client : Opening → List Entry → ℕ
next_client o h = length (places o h)

-- the number of the next request
abbrev pub next_request : Opening → List Entry → ℕ
next_request o h = o.next_request + length (accepts h)

-- the number of the next discovery
abbrev pub next_ask : Opening → List Entry → ℕ
next_ask o h = o.next_ask + length (asks h)

-- the opening's transaction number, plus the number of frames sent
abbrev pub frames_sent : Opening → List Entry → ℕ
frames_sent o h = o.next_tn + length (sends h)

-- the transaction number of the next frame
abbrev pub next_tn : Opening → List Entry → ℕ
next_tn o h = frames_sent o h % 256

-- the Accepts without a Finish: all but the first n, if there are n Finishes
abbrev pub unfinished : List Entry → List Accepted
unfinished h = drop (length (finishes h)) (accepts h)

-- the Asks without an Answer: all but the first n, if there are n Answers
abbrev pub unanswered : List Entry → List AskedDiscovery
unanswered h = drop (length (answers h)) (asks h)

-- whether a frame was sent for request n
abbrev pub was_sent : ℕ → List Entry → Bool
was_sent n h = list_any (λ s. is_request n s.owner) (sends h)

-- the requests under way: those that aren't finished, and for which a frame was sent
abbrev pub under_way : List Entry → List Accepted
under_way h = filter (λ a. was_sent a.number h) (unfinished h)

-- how many Finishes and Answers aren't collected
abbrev pub uncollected_count : List Entry → ℕ
uncollected_count h = length (finishes h) + length (answers h) - length (collectors h)

-- whether each request is finished, each discovery answered, and each outcome collected
abbrev pub is_idle : List Entry → Bool
is_idle h = (length (unfinished h) == 0) && (length (unanswered h) == 0) && (uncollected_count h == 0)

-- how many entries are reserved: one for a close, unless the queue is closed; one for a reply that is awaited; two for
-- each unfinished request and each unanswered discovery; one for each outcome that isn't collected
abbrev pub reserved : Opening → List Entry → ℕ
reserved o h =
    (if is_closed o h then 0 else 1) + (if awaited h then 1 else 0)
    + 2 * (length (unfinished h) + length (unanswered h)) + uncollected_count h

-- how many entries are free: neither used nor reserved
abbrev pub free_room : ℕ → Opening → List Entry → ℕ
free_room room o h = room - length h - reserved o h
