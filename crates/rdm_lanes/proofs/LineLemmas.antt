-- How the exchanges in a log, and what is awaited, go on as it grows.
use Rattle.rdm_lanes.proofs.Common.{◌≡◌, ℕ, Bool, true, false, true≢false, List, [], ◌∷◌, ◌++◌, map, length, None, refl}
use Rattle.rdm_lanes.proofs.Common.{sym, ap, ◌∙◌, subst, zip, filter_map, append-nil, append_assoc, AllByRecursion}
use Rattle.rdm_lanes.proofs.Common.{map-append, filter_map-append, ArrayVec, EachAfter, LineEvent, Opening, Owner}
use Rattle.rdm_lanes.proofs.Common.{Entry, Join, Refuse, Accept, Ask, Send, Came, Finish, Answer, Collect, Pause}
use Rattle.rdm_lanes.proofs.Common.{Resume, Close, join_of, sends, cames, traded, joins, exchanges, awaited, is_closed}
use Rattle.rdm_lanes.proofs.Common.{is_paused, LogState, grown, AllResults, awaited-push, is_closed-push}
use Rattle.rdm_lanes.proofs.Common.{is_paused-push, SameSwitches, IsBetweenTurns, NoCallLost, switch_of, switches}
use Rattle.rdm_lanes.proofs.Common.{NoExchange, views_found}
use Rattle.rdm_wire.proofs.EachAfterLemmas.{EachAfter-push}
use Rattle.rdm_log.specs.log.Entries.{sending_of, came_of, traded_of, exchange_of}
use Rattle.rdm_log.specs.log.History.{closed_after as closed_by, paused_after as paused_by}
use Rattle.rdm_log.proofs.LogLemmas.Indices.{zip_both_more}
use Rattle.rdm_log.proofs.PromiseLemmas.EntriesOf.{results_each}
use Rattle.rdm_lanes.specs.Lines.{may_refuse}
use Rattle.rdm_lanes.proofs.ListLemmas.{filter_map_nothing, all_follow}

-- an entry that neither is of the line, nor ends anything, nor closes
abbrev pub is_quiet : Entry → Bool
is_quiet (Join c n) = true
is_quiet (Refuse c call cause) = true
is_quiet (Accept c n request) = true
is_quiet (Ask c n kind) = true
is_quiet (Collect c) = true
is_quiet Pause = true
is_quiet Resume = true
is_quiet _ = false

-- an entry that isn't of the line
abbrev pub is_off_line : Entry → Bool
is_off_line (Send owner frame) = false
is_off_line (Came event) = false
is_off_line _ = true

abbrev pub AllOffLine : List Entry → Type 0
AllOffLine block = AllByRecursion (λ e. is_off_line e ≡ true) block

-- Finishes and Answers aren't of the line
pub results_off : (block : List Entry) → AllResults block → AllOffLine block
results_off block all =
    results_each (λ e. is_off_line e ≡ true) (λ n status len. refl, λ n run fault. refl) block all

-- what is awaited stays
awaited_one : (h : List Entry) (e : Entry) → is_off_line e ≡ true → awaited (h ++ e ∷ []) ≡ awaited h
awaited_one h (Send owner frame) is = absurd (true≢false (sym is))
awaited_one h (Came event) is = absurd (true≢false (sym is))
awaited_one h (Join c n) is = awaited-push h (Join c n)
awaited_one h (Refuse c call cause) is = awaited-push h (Refuse c call cause)
awaited_one h (Accept c n request) is = awaited-push h (Accept c n request)
awaited_one h (Ask c n kind) is = awaited-push h (Ask c n kind)
awaited_one h (Finish n status len) is = awaited-push h (Finish n status len)
awaited_one h (Answer n r fault) is = awaited-push h (Answer n r fault)
awaited_one h (Collect c) is = awaited-push h (Collect c)
awaited_one h Pause is = awaited-push h Pause
awaited_one h Resume is = awaited-push h Resume
awaited_one h Close is = awaited-push h Close

pub awaited_off : (h block : List Entry) → AllOffLine block → awaited (h ++ block) ≡ awaited h
awaited_off h [] all = ap awaited (append-nil h)
awaited_off h (e ∷ block) all =
    ap awaited (sym (append_assoc h (e ∷ []) block)) ∙ awaited_off (h ++ e ∷ []) block all.1 ∙ awaited_one h e all.0

-- an entry that pauses, resumes or closes
abbrev pub is_switch : Entry → Bool
is_switch Pause = true
is_switch Resume = true
is_switch Close = true
is_switch _ = false

abbrev pub NoSwitch : List Entry → Type 0
NoSwitch block = AllByRecursion (λ e. is_switch e ≡ false) block

pub results_no_switch : (block : List Entry) → AllResults block → NoSwitch block
results_no_switch block all =
    results_each (λ e. is_switch e ≡ false) (λ n status len. refl, λ n run fault. refl) block all

not_closing : (b : Bool) (e : Entry) → is_switch e ≡ false → closed_by b e ≡ b
not_closing b Close is = absurd (true≢false is)
not_closing b _ is = refl

not_pausing : (b : Bool) (e : Entry) → is_switch e ≡ false → paused_by b e ≡ b
not_pausing b Pause is = absurd (true≢false is)
not_pausing b Resume is = absurd (true≢false is)
not_pausing b _ is = refl

pub closed_stays : (o : Opening) (h block : List Entry) → NoSwitch block → is_closed o (h ++ block) ≡ is_closed o h
closed_stays o h [] all = ap (is_closed o) (append-nil h)
closed_stays o h (e ∷ block) all =
    ap (is_closed o) (sym (append_assoc h (e ∷ []) block)) ∙ closed_stays o (h ++ e ∷ []) block all.1
    ∙ is_closed-push o h e ∙ not_closing (is_closed o h) e all.0

pub paused_stays : (o : Opening) (h block : List Entry) → NoSwitch block → is_paused o (h ++ block) ≡ is_paused o h
paused_stays o h [] all = ap (is_paused o) (append-nil h)
paused_stays o h (e ∷ block) all =
    ap (is_paused o) (sym (append_assoc h (e ∷ []) block)) ∙ paused_stays o (h ++ e ∷ []) block all.1
    ∙ is_paused-push o h e ∙ not_pausing (is_paused o h) e all.0

no_switch_of : (e : Entry) → is_switch e ≡ false → switch_of e ≡ None
no_switch_of Pause is = absurd (true≢false is)
no_switch_of Resume is = absurd (true≢false is)
no_switch_of Close is = absurd (true≢false is)
no_switch_of _ is = refl

pub switches_off : (h block : List Entry) → NoSwitch block → switches (h ++ block) ≡ switches h
unfolding switches
switches_off h block all =
    filter_map-append switch_of h block
    ∙ rw (filter_map_nothing switch_of block (all_follow _ _ no_switch_of block all))
    (append-nil (filter_map switch_of h))

pub switches_stay : (old new : LogState) (block : List Entry) → new ≡ grown old block → NoSwitch block
    → SameSwitches old new
switches_stay old new block is all = rw is (record {
  switches_are = switches_off old.entries block all;
  paused = paused_stays old.opening old.entries block all;
  closed = closed_stays old.opening old.entries block all;
})

pub switches_join : (a b d : LogState) → SameSwitches a b → SameSwitches b d → SameSwitches a d
switches_join a b d p q = record {
  switches_are = q.switches_are ∙ p.switches_are;
  paused = q.paused ∙ p.paused;
  closed = q.closed ∙ p.closed;
}

pub switches_same : (a : LogState) → SameSwitches a a
switches_same a = record { switches_are = refl; paused = refl; closed = refl }

-- who has joined stays without a Join
abbrev pub NobodyJoins : List Entry → Type 0
NobodyJoins block = AllByRecursion (λ e. join_of e ≡ None) block

pub results_no_join : (block : List Entry) → AllResults block → NobodyJoins block
results_no_join block all =
    results_each (λ e. join_of e ≡ None) (λ n status len. refl, λ n run fault. refl) block all

pub joins_stay : (h block : List Entry) → NobodyJoins block → joins (h ++ block) ≡ joins h
unfolding joins
joins_stay h block all =
    filter_map-append join_of h block ∙ rw (filter_map_nothing join_of block all) (append-nil (filter_map join_of h))

-- the exchanges stay
not_sent : (e : Entry) → is_off_line e ≡ true → sending_of e ≡ None
not_sent (Send owner frame) is = absurd (true≢false (sym is))
not_sent _ is = refl

not_came : (e : Entry) → is_off_line e ≡ true → came_of e ≡ None
not_came (Came event) is = absurd (true≢false (sym is))
not_came _ is = refl

pub sends_off : (h block : List Entry) → AllOffLine block → sends (h ++ block) ≡ sends h
unfolding sends
sends_off h block all =
    filter_map-append sending_of h block
    ∙ rw (filter_map_nothing sending_of block (all_follow _ _ not_sent block all))
    (append-nil (filter_map sending_of h))

pub cames_off : (h block : List Entry) → AllOffLine block → cames (h ++ block) ≡ cames h
unfolding cames
cames_off h block all =
    filter_map-append came_of h block
    ∙ rw (filter_map_nothing came_of block (all_follow _ _ not_came block all)) (append-nil (filter_map came_of h))

pub exchanges_off : (h block : List Entry) → AllOffLine block → exchanges (h ++ block) ≡ exchanges h
unfolding exchanges traded
exchanges_off h block all = rw (sends_off h block all, cames_off h block all) refl

-- an exchange more
sends_one : (h : List Entry) (owner : Owner) (frame : ArrayVec ℕ)
    → sends (h ++ Send owner frame ∷ []) ≡ sends h ++ record { owner = owner; frame = frame } ∷ []
unfolding sends
sends_one h owner frame = filter_map-append sending_of h (Send owner frame ∷ [])

sends_came : (h : List Entry) (event : LineEvent) → sends (h ++ Came event ∷ []) ≡ sends h
unfolding sends
sends_came h event = filter_map-append sending_of h (Came event ∷ []) ∙ append-nil (filter_map sending_of h)

cames_one : (h : List Entry) (event : LineEvent) → cames (h ++ Came event ∷ []) ≡ cames h ++ event ∷ []
unfolding cames
cames_one h event = filter_map-append came_of h (Came event ∷ [])

cames_sent : (h : List Entry) (owner : Owner) (frame : ArrayVec ℕ) → cames (h ++ Send owner frame ∷ []) ≡ cames h
unfolding cames
cames_sent h owner frame = filter_map-append came_of h (Send owner frame ∷ []) ∙ append-nil (filter_map came_of h)

pub traded_one : (h : List Entry) (owner : Owner) (frame : ArrayVec ℕ) (event : LineEvent)
    → length (sends h) ≡ length (cames h)
    → exchanges ((h ++ Send owner frame ∷ []) ++ Came event ∷ []) ≡ exchanges h ++ (frame, event) ∷ []
unfolding exchanges traded
traded_one h owner frame event even =
    rw (
      sends_came (h ++ Send owner frame ∷ []) event,
      sends_one h owner frame,
      cames_one (h ++ Send owner frame ∷ []) event,
      cames_sent h owner frame,
      zip_both_more (sends h) (cames h) (record { owner = owner; frame = frame }) event even,
      map-append traded_of (zip (sends h) (cames h)) ((record { owner = owner; frame = frame }, event) ∷ []),
      map-append exchange_of (map traded_of (zip (sends h) (cames h)))
          (traded_of (record { owner = owner; frame = frame }, event) ∷ []),
    ) refl

-- each refusal has its cause
abbrev pub RefusedRightly : Opening → List Entry → Entry → Type 0
RefusedRightly o h (Refuse c call cause) = may_refuse o h ≡ true
RefusedRightly o h _ = Unit {0}

refusals_of : (k : LogState) → NoCallLost k → EachAfter (RefusedRightly k.opening) k.entries
refusals_of k is front back e at = by_entry e at
  where
    by_entry : (e : Entry) → k.entries ≡ front ++ e ∷ back → RefusedRightly k.opening front e
    by_entry (Refuse c call cause) at = is.rightly front back c call cause at
    by_entry _ at = tt

-- so those of a block
abbrev pub AllRightly : Opening → List Entry → List Entry → Type 0
AllRightly o h [] = Unit {0}
AllRightly o h (e ∷ block) = RefusedRightly o h e × AllRightly o (h ++ e ∷ []) block

rightly_block : (o : Opening) (h block : List Entry) → EachAfter (RefusedRightly o) h → AllRightly o h block
    → EachAfter (RefusedRightly o) (h ++ block)
rightly_block o h [] each all = subst (EachAfter (RefusedRightly o)) (sym (append-nil h)) each
rightly_block o h (e ∷ block) each all =
    subst (EachAfter (RefusedRightly o)) (append_assoc h (e ∷ []) block)
    (rightly_block o (h ++ e ∷ []) block (EachAfter-push (RefusedRightly o) h e each all.0) all.1)

pub none_lost_grows : (k : LogState) (block : List Entry) → NoCallLost k → AllRightly k.opening k.entries block
    → NoCallLost (grown k block)
none_lost_grows k block is all = record {
  rightly = λ front back c call cause at. rightly_block k.opening k.entries block (refusals_of k is) all front back
      (Refuse c call cause) at;
}

abbrev pub is_refusal : Entry → Bool
is_refusal (Refuse c call cause) = true
is_refusal _ = false

rightly_other : (o : Opening) (h : List Entry) (e : Entry) → is_refusal e ≡ false → RefusedRightly o h e
rightly_other o h (Refuse c call cause) is = absurd (true≢false is)
rightly_other o h _ is = tt

-- a block without refusals
pub rightly_without : (o : Opening) (h block : List Entry) → AllByRecursion (λ e. is_refusal e ≡ false) block
    → AllRightly o h block
rightly_without o h [] all = tt
rightly_without o h (e ∷ block) all = (rightly_other o h e all.0, rightly_without o (h ++ e ∷ []) block all.1)

pub results_no_refusal : (block : List Entry) → AllResults block → AllByRecursion (λ e. is_refusal e ≡ false) block
results_no_refusal block all =
    results_each (λ e. is_refusal e ≡ false) (λ n status len. refl, λ n run fault. refl) block all

-- what a block without frames leaves
pub served_off : (old new : LogState) (block : List Entry) → new ≡ grown old block → AllOffLine block
    → AllRightly old.opening old.entries block → IsBetweenTurns old → IsBetweenTurns new
served_off old new block is off rightly s = rw is (record {
  answered = awaited_off old.entries block off ∙ s.answered;
  no_call_lost = none_lost_grows old block s.no_call_lost rightly;
})

-- a block without frames and joins
pub line_off : (old new : LogState) (block : List Entry) → new ≡ grown old block → AllOffLine block → NobodyJoins block
    → views_found (old.entries ++ block) ≡ views_found old.entries → NoExchange old new
line_off old new block is all nobody views = record {
  block = block;
  grows = is;
  nobody_joined = ap (λ (k : LogState). joins k.entries) is ∙ joins_stay old.entries block nobody;
  same = ap (λ (k : LogState). exchanges k.entries) is ∙ exchanges_off old.entries block all;
  same_views = ap (λ (k : LogState). views_found k.entries) is ∙ views;
}

pub grown_join : (a b d : LogState) (block more : List Entry) → b ≡ grown a block → d ≡ grown b more
    → d ≡ grown a (block ++ more)
grown_join a b d block more p q =
    q ∙ ap (λ (k : LogState). grown k more) p
    ∙ ap (λ (h : List Entry). record a { entries = h }) (append_assoc a.entries block more)

pub grown_same : (a : LogState) → a ≡ grown a []
grown_same a = ap (λ (h : List Entry). record a { entries = h }) (sym (append-nil a.entries))

pub line_join : (a b d : LogState) → NoExchange a b → NoExchange b d → NoExchange a d
line_join a b d p q = record {
  block = p.block ++ q.block;
  grows = grown_join a b d p.block q.block p.grows q.grows;
  nobody_joined = q.nobody_joined ∙ p.nobody_joined;
  same = q.same ∙ p.same;
  same_views = q.same_views ∙ p.same_views;
}

pub line_same : (a : LogState) → NoExchange a a
line_same a = record { block = []; grows = grown_same a; nobody_joined = refl; same = refl; same_views = refl }
