-- The frame that a queue returns may be sent, and the queue stands after the log with it.
use Rattle.rdm_queue.proofs.Common.{◌≡◌, ℕ, zero, suc, ◌+◌, ◌<◌, ◌≤◌, Bool, true, false, List, [], ◌∷◌, length, filter}
use Rattle.rdm_queue.proofs.Common.{map, Option, Some, None, slice_get, refl, sym, ap, ◌∙◌, subst, inl, inr, arith}
use Rattle.rdm_queue.proofs.Common.{cond, ◌⊎◌, ◌==◌, ◌||◌, is_some, zip, if◌then◌else◌, cases_Bool, cases_lt, lt-ltb}
use Rattle.rdm_queue.proofs.Common.{eqb-true, false≢true, or_parts, same_Some, none-some, ArrayVec, asked_by, next_op}
use Rattle.rdm_queue.proofs.Common.{HasRunBy, op_frame, Op, Owner, Opening, Entry, Accepted, AskedDiscovery, Sending}
use Rattle.rdm_queue.proofs.Common.{traded, accepts, finishes, sends, cames, is_request, is_run, LineEvent, awaited}
use Rattle.rdm_queue.proofs.Common.{unfinished, was_sent, next_tn, has_begun, open_run, last_run, unserved}
use Rattle.rdm_queue.proofs.Common.{run_exchanges, is_answered, run_kind, known_at_run, NoSend, QueueState, RunState}
use Rattle.rdm_queue.proofs.Common.{IsGiven, WhichGives, begun, to_send, Opened, Turned, Began, IsRunning, IsNotRunning}
use Rattle.rdm_queue.proofs.Common.{RunIs, RunGoesOn, oldest_number, Describes, StandsAfter, LogFacts, legal_facts}
use Rattle.rdm_queue.proofs.Common.{unfinished_number, later_unsent, ask_facts, run_facts, slice_get-drop}
use Rattle.rdm_queue.proofs.Common.{agent_goes_on, all_unserved}
use Rattle.rdm_wire.specs.Honest.Asked.{Unmute, Branch, Mute}
use Rattle.rdm_agent.specs.Statements.{IsInOrder}
use Rattle.rdm_agent.specs.declared.op.Op.TheVariants as ops
use Rattle.rdm_agent.proofs.CallLemmas.{next-in_order, next-in_budget}
use Rattle.rdm_log.specs.declared.entry.Owner.TheVariants as owners
use Rattle.rdm_log.specs.log.Entries.{OwnedExchange, traded_of}
use Rattle.rdm_log.specs.log.History.{under_way, next_request}
use Rattle.rdm_log.specs.log.Runs.{run_frames, seen_of}
use Rattle.rdm_log.specs.log.MaySend.{MaySendRequest, MaySendRun, MayBegin, IsRunFrame}
use Rattle.rdm_queue.specs.body.Sending.{GivesRun, GivesTurn, GivesFirst, unless_ended, of_run, run_to_send}
use Rattle.rdm_queue.specs.body.Sending.{request_to_send}
use Rattle.rdm_queue.specs.body.Sending.ToSend.{OfRequest, OfRun}
use Rattle.rdm_log.proofs.LogLemmas.KeepsLegal.{send_keeps, run_send_keeps}
use Rattle.rdm_log.proofs.LogLemmas.LegalFacts.{sent_evenly}
use Rattle.rdm_log.proofs.LogLemmas.RunFacts.{is_open, any_from_index}
use Rattle.rdm_log.proofs.LogLemmas.Indices.{within_some}
use Rattle.rdm_log.proofs.LogLemmas.RunLemmas.{no_frames}
use Rattle.rdm_queue.proofs.BodyLemmas.AfterLemmas.{IsSent, pending_flag, sent_by_frame}
use Rattle.rdm_queue.proofs.BodyLemmas.DescribesWork.{stands_send, none_sent}
use Rattle.rdm_queue.proofs.BodyLemmas.DescribesRuns.{stands_run_send, stands_begin, not_stopped}

-- no reply is awaited
free_of : (o : Opening) (h : List Entry) (s : QueueState) → is_some s.awaited ≡ false → StandsAfter o h s
    → awaited h ≡ false
free_of o h s free after = sym (pending_flag o h s s.awaited after.stands.awaited_is) ∙ free

-- a run has as many frames as exchanges if no reply is awaited
frames_of : (r : ℕ) (ss : List Sending) (es : List LineEvent) → length ss ≡ length es
    → length (filter (λ (s : Sending). is_run r s.owner) ss)
    ≡ length (map seen_of (filter (λ (t : OwnedExchange). is_run r t.owner) (map traded_of (zip ss es))))
frames_of r [] es even = refl
frames_of r (s ∷ ss) [] even = absurd (omega arith)
frames_of r (s ∷ ss) (e ∷ es) even = by_test (is_run r s.owner) (frames_of r ss es (omega arith))
  where
    frames : List Sending
    frames = filter (λ (t : Sending). is_run r t.owner) ss

    exchanges : List OwnedExchange
    exchanges = filter (λ (t : OwnedExchange). is_run r t.owner) (map traded_of (zip ss es))

    by_test : (b : Bool) → length frames ≡ length (map seen_of exchanges)
        → length (cond b (s ∷ frames) frames) ≡ length (map seen_of (cond b (traded_of (s, e) ∷ exchanges) exchanges))
    by_test true same = ap suc same
    by_test false same = same

frames_even : (r : ℕ) (h : List Entry) → length (sends h) ≡ length (cames h)
    → run_frames r h ≡ length (run_exchanges r h)
unfolding run_exchanges traded
frames_even r h even = frames_of r (sends h) (cames h) even

-- what an operation's frame is
frame_in_order : (op : Op) (s tn before : ℕ) (frame : List ℕ) → frame ≡ op_frame op s tn
    → IsInOrder before (asked_by op) → (op ≡ ops.End → ⊥) → IsRunFrame s tn before frame
frame_in_order ops.UnmuteAll s tn before frame is ordered goes = record {
  unmute = λ early. is;
  search = λ late. absurd (ordered.1 late);
}
frame_in_order (ops.Mute u) s tn before frame is ordered goes = record {
  unmute = λ early. absurd (no (ordered.0 early));
  search = λ late. inr (record { uid = u; device = ordered.1 late; frame_is = is });
}
  where
    no : Mute u ≡ Unmute → ⊥
    no e = cc
frame_in_order (ops.Branch range) s tn before frame is ordered goes = record {
  unmute = λ early. absurd (no (ordered.0 early));
  search = λ late. let both = ordered.1 late in
      inl (record { lo = range.lo; hi = range.hi; ordered = both.0; in_range = both.1; frame_is = is });
}
  where
    no : Branch range.lo range.hi ≡ Unmute → ⊥
    no e = cc
frame_in_order ops.End s tn before frame is ordered goes = absurd (goes refl)

-- no run is open, and none has an answer left to give
pub not_running : (o : Opening) (h : List Entry) (s : QueueState) → s.run ≡ None → Describes o h s
    → IsNotRunning o h s.agent
not_running o h s none stands = subst (λ q. RunIs o h s q) none stands.run_is

pub running : (o : Opening) (h : List Entry) (s : QueueState) (r : RunState) → s.run ≡ Some r → Describes o h s
    → IsRunning o h s r
running o h s r is stands = subst (λ q. RunIs o h s q) is stands.run_is

-- a request's turn
none_asked : (xs : List AskedDiscovery) → (length xs == 0) ≡ true → xs ≡ []
none_asked [] is = refl
none_asked (a ∷ xs) is = absurd (omega (arith, eqb-true (length (a ∷ xs)) 0 is))

some_asked : (xs : List AskedDiscovery) → (length xs == 0) ≡ false → 1 ≤ length xs
some_asked [] is = absurd (false≢true (sym is))
some_asked (a ∷ xs) is = omega arith

may_turn : (o : Opening) (h : List Entry) (s : QueueState) (owner : Owner) (frame : ArrayVec ℕ) (new : QueueState)
    → is_some s.awaited ≡ false → s.closed ≡ false → (gives : GivesTurn s owner frame new) → StandsAfter o h s
    → MaySendRequest o h gives.gives.accepted.number frame
may_turn o h s owner frame new free not_closed gives after = record {
  not_awaited = free_of o h s free after;
  not_closed = sym after.stands.closed_is ∙ not_closed;
  not_paused = sym after.stands.paused_is ∙ gives.not_paused;
  no_run = (not_running o h s gives.no_run after.stands).none_open;
  accepted = gives.gives.accepted;
  lowest = oldest;
  number = refl;
  turn = turn (cases_Bool s.under_way);
  packet = rw (after.stands.source_is, after.stands.next_tn_is) at gives.gives.packet;
}
  where
    oldest : slice_get (unfinished h) 0 ≡ Some gives.gives.accepted
    oldest = ap (λ l. slice_get l 0) (sym after.stands.waiting_are) ∙ gives.gives.oldest

    number : gives.gives.accepted.number ≡ oldest_number o h
    number = unfinished_number o h (legal_facts o h after.legal.each) 0 gives.gives.accepted oldest ∙ omega arith

    unserved_none : s.asked ≡ [] → unserved h ≡ []
    unserved_none none =
        all_unserved h (not_running o h s gives.no_run after.stands).none_left ∙ (sym after.stands.asked_are ∙ none)

    turn : (s.under_way ≡ true) ⊎ (s.under_way ≡ false) → (was_sent gives.gives.accepted.number h ≡ true)
        ⊎ (unserved h ≡ [])
    turn (inl way) = inl (rw number (sym after.stands.under_way_is ∙ way))
    turn (inr way) = inr (unserved_none (none_asked s.asked (rw way at gives.turn)))

-- the open run's
pub run_opened : (o : Opening) (h : List Entry) (s : QueueState) (r : RunState) → s.run ≡ Some r
    → (next_op s.agent ≡ ops.End → ⊥) → Describes o h s → open_run h ≡ Some r.number
run_opened o h s r is goes stands =
    let run = running o h s r is stands in
    is_open h r.number (record { last = run.last; left = by_test run (cases_Bool (is_answered r.number h)) })
  where
    by_test : IsRunning o h s r → (is_answered r.number h ≡ true) ⊎ (is_answered r.number h ≡ false)
        → is_answered r.number h ≡ false
    by_test run (inl named) = absurd (goes (run.ended named))
    by_test run (inr left) = left

may_run : (o : Opening) (h : List Entry) (s : QueueState) (owner : Owner) (frame : ArrayVec ℕ) (new : QueueState)
    → is_some s.awaited ≡ false → s.closed ≡ false → (gives : GivesRun s owner frame new) → StandsAfter o h s
    → MaySendRun o h gives.run.number frame
may_run o h s owner frame new free not_closed gives after = record {
  not_awaited = free_of o h s free after;
  not_closed = sym after.stands.closed_is ∙ not_closed;
  turn = inr (run_opened o h s gives.run gives.run_is gives.goes_on after.stands);
  in_budget = rw frames (agent_goes_on o h gives.run.number s.agent has_run gives.goes_on).in_budget;
  packet = rw frames
      (frame_in_order (next_op s.agent) o.source (next_tn o h) (length (run_exchanges gives.run.number h)) frame.items
      (rw (after.stands.source_is, after.stands.next_tn_is) at gives.frame_is)
      (next-in_order s.agent _ _ _ false _ has_run gives.goes_on) gives.goes_on);
}
  where
    run : IsRunning o h s gives.run
    run = running o h s gives.run gives.run_is after.stands

    has_run : HasRunBy o.search (run_kind gives.run.number h) (known_at_run o gives.run.number h) o.budget false
        (run_exchanges gives.run.number h) s.agent
    has_run = not_stopped _ _ _ run.aborted _ s.agent run.has_run gives.goes_on

    frames : run_frames gives.run.number h ≡ length (run_exchanges gives.run.number h)
    frames = frames_even gives.run.number h
        (sent_evenly o h (legal_facts o h after.legal.each) (free_of o h s free after))

-- a run that begins
none_under_way : (o : Opening) (h : List Entry) → LogFacts o h → was_sent (oldest_number o h) h ≡ false
    → under_way h ≡ []
none_under_way o h facts none = none_pass (unfinished h) (λ i a at. unsent i a at)
  where
    none_pass : (xs : List Accepted) → ((i : ℕ) (a : Accepted) → slice_get xs i ≡ Some a → was_sent a.number h ≡ false)
        → filter (λ a. was_sent a.number h) xs ≡ []
    none_pass [] at = refl
    none_pass (x ∷ xs) at = rw (at 0 x refl) (none_pass xs (λ i a is. at (suc i) a is))

    unsent : (i : ℕ) (a : Accepted) → slice_get (unfinished h) i ≡ Some a → was_sent a.number h ≡ false
    unsent zero a at = ap (λ n. was_sent n h) (unfinished_number o h facts 0 a at ∙ omega arith) ∙ none
    unsent (suc i) a at =
        none_sent a.number (sends h)
        (later_unsent o h facts a.number (let number = unfinished_number o h facts (suc i) a at in omega arith))

begins : (o : Opening) (h : List Entry) (s : QueueState) (owner : Owner) (frame : ArrayVec ℕ) (new : QueueState)
    → GivesFirst s owner frame new → StandsAfter o h s → MayBegin o h s.next_run
begins o h s owner frame new gives after = record {
  not_paused = sym after.stands.paused_is ∙ gives.not_paused;
  no_run = none.none_open;
  no_request = none_under_way o h (legal_facts o h after.legal.each) (sym after.stands.under_way_is ∙ turn.0);
  asked = λ empty. some s.asked (after.stands.asked_are ∙ (sym (all_unserved h none.none_left) ∙ empty)) turn.1;
  number = after.stands.next_run_is;
  from_one = from (last_run h) refl;
}
  where
    none : IsNotRunning o h s.agent
    none = not_running o h s gives.no_run after.stands

    turn : (s.under_way ≡ false) × ((length s.asked == 0) ≡ false)
    turn = or_parts s.under_way (length s.asked == 0) gives.turn

    some : (xs : List AskedDiscovery) → xs ≡ [] → (length xs == 0) ≡ false → ⊥
    some [] is t = false≢true (sym t)
    some (a ∷ xs) is t = cc

    from : (last : Option ℕ) → last_run h ≡ last → 1 ≤ s.next_run
    from None is =
        let same : s.next_run ≡ o.next_run = after.stands.next_run_is ∙ rw is refl in
        let first = after.stands.first_run in omega arith
    from (Some r) is = let same : s.next_run ≡ r + 1 = after.stands.next_run_is ∙ rw is refl in omega arith

may_first : (o : Opening) (h : List Entry) (s : QueueState) (owner : Owner) (frame : ArrayVec ℕ) (new : QueueState)
    → is_some s.awaited ≡ false → s.closed ≡ false → (gives : GivesFirst s owner frame new) → StandsAfter o h s
    → MaySendRun o h s.next_run frame
may_first o h s owner frame new free not_closed gives after = record {
  not_awaited = free_of o h s free after;
  not_closed = sym after.stands.closed_is ∙ not_closed;
  turn = inl begin;
  in_budget = rw none (budget (cases_lt 0 s.budget));
  packet = rw none
      (frame_in_order (next_op (begun s).agent) o.source (next_tn o h) 0 frame.items
      (rw (after.stands.source_is, after.stands.next_tn_is) at gives.gives.frame_is)
      (next-in_order (begun s).agent _ _ _ false [] gives.starts gives.gives.goes_on) gives.gives.goes_on);
}
  where
    begin : MayBegin o h s.next_run
    begin = begins o h s owner frame new gives after

    none : run_frames s.next_run h ≡ 0
    none = no_frames s.next_run h (unbegun (cases_Bool (has_begun s.next_run h)))
      where
        unbegun : (has_begun s.next_run h ≡ true) ⊎ (has_begun s.next_run h ≡ false) → has_begun s.next_run h ≡ false
        unbegun (inl started) =
            absurd (apart begin.number ((run_facts o h after.legal.each).begun_below s.next_run started).1)
          where
            apart : {n m : ℕ} → n ≡ m → n < m → ⊥
            apart p q = omega arith
        unbegun (inr not) = not

    budget : (0 < s.budget) ⊎ (s.budget ≤ 0) → 0 < o.budget
    budget (inl some) = rw (← after.stands.budget_is) some
    budget (inr empty) =
        absurd (gives.gives.goes_on
        (next-in_budget (begun s).agent _ _ _ false [] gives.starts (zero_of s.budget empty)))
      where
        zero_of : (n : ℕ) → n ≤ 0 → 0 ≡ n
        zero_of n p = omega arith

pub take_after : (o : Opening) (h : List Entry) (s : QueueState) (owner : Owner) (frame : ArrayVec ℕ) (new : QueueState)
    → IsGiven s owner frame new → StandsAfter o h s → IsSent o h owner frame new
take_after o h s owner frame new given after = by_which given.which
  where
    facts : LogFacts o h
    facts = legal_facts o h after.legal.each

    even : length (sends h) ≡ length (cames h)
    even = sent_evenly o h facts (free_of o h s given.free after)

    by_which : WhichGives s owner frame new → IsSent o h owner frame new
    by_which (Turned turn) =
        let may = may_turn o h s owner frame new given.free given.not_closed turn after in
        let oldest : slice_get (unfinished h) 0 ≡ Some turn.gives.accepted =
        ap (λ l. slice_get l 0) (sym after.stands.waiting_are) ∙ turn.gives.oldest in
        rw (turn.gives.owner_is, turn.gives.new_is) (record {
          may = may;
          after = record {
            legal = send_keeps o h turn.gives.accepted.number frame after.legal may;
            goes_on = after.goes_on;
            stands = stands_send o h s turn.gives.accepted frame after.legal.each (after.legal.settled, may) even
                (unfinished_number o h facts 0 turn.gives.accepted oldest ∙ omega arith)
                (sent_by_frame s turn.gives.accepted frame.items turn.gives.packet) turn.no_run after.stands;
          };
        })
    by_which (Opened run) =
        let may = may_run o h s owner frame new given.free given.not_closed run.gives after in
        rw (run.gives.owner_is, run.gives.new_is) (record {
          may = may;
          after = record {
            legal = run_send_keeps o h run.gives.run.number frame after.legal may;
            goes_on = after.goes_on;
            stands = stands_run_send o h s run.gives.run frame after.legal.each (after.legal.settled, may) even
                run.gives.run_is run.gives.goes_on run.gives.frame_is run.gives.asks after.stands;
          };
        })
    by_which (Began first) =
        let may = may_first o h s owner frame new given.free given.not_closed first after in
        let begin = begins o h s owner frame new first after in
        let number : first.gives.run.number ≡ s.next_run =
        ap (λ (q : RunState). q.number) (sym (same_Some _ _ first.gives.run_is)) in
        rw (first.gives.owner_is, first.gives.new_is, number) (record {
          may = may;
          after = record {
            legal = run_send_keeps o h s.next_run frame after.legal may;
            goes_on = first.gives.goes_on;
            stands = stands_begin o h s frame after.legal.each (after.legal.settled, may)
                (run_facts o h after.legal.each) (ask_facts o h after.legal.each) even first.no_run
                (or_parts s.under_way (length s.asked == 0) first.turn).0
                (some_asked s.asked (or_parts s.under_way (length s.asked == 0) first.turn).1) begin.from_one
                first.starts first.gives.goes_on first.gives.frame_is first.gives.asks after.stands;
          };
        })

no_element : (xs : List AskedDiscovery) → xs ≡ [] → (length xs == 0) ≡ false → ⊥
no_element [] is t = false≢true (sym t)
no_element (a ∷ xs) is t = cc

-- a request whose frame was sent waits, if it is the oldest
sent_waits : (o : Opening) (h : List Entry) → LogFacts o h → was_sent (oldest_number o h) h ≡ true → under_way h ≡ []
    → ⊥
sent_waits o h facts sent none = by_first (slice_get (unfinished h) 0) refl
  where
    sent_at : (i : ℕ) × (x : Sending) × (slice_get (sends h) i ≡ Some x)
        × (is_request (oldest_number o h) x.owner ≡ true)
    sent_at = any_from_index (λ (x : Sending). is_request (oldest_number o h) x.owner) (sends h) sent

    none_in : (xs : List Accepted) (a : Accepted) → slice_get xs 0 ≡ Some a → was_sent a.number h ≡ true
        → filter (λ b. was_sent b.number h) xs ≡ [] → ⊥
    none_in [] a at is empty = none-some a at
    none_in (x ∷ xs) a at is empty = let same : x ≡ a = cc in no (rw (same, is) at empty)
      where
        no : {y : Accepted} {ys : List Accepted} → y ∷ ys ≡ [] → ⊥
        no h = cc

    by_first : (first : Option Accepted) → slice_get (unfinished h) 0 ≡ first → ⊥
    by_first (Some a) at =
        none_in (unfinished h) a at (ap (λ n. was_sent n h) (unfinished_number o h facts 0 a at ∙ omega arith) ∙ sent)
        none
    by_first None at =
        absurd (too_few (facts.sent_accepted sent_at.0 sent_at.1 sent_at.2 (oldest_number o h) sent_at.3)
        (sym (slice_get-drop (length (finishes h)) (accepts h) 0) ∙ at))
      where
        too_few : oldest_number o h < next_request o h → slice_get (accepts h) (length (finishes h) + 0) ≡ None → ⊥
        too_few below empty = within_some (accepts h) (length (finishes h) + 0) (omega arith) empty

-- if a queue returns no frame, none may be sent
gives_open : (r : ℕ) (op : Op) → unless_ended r op ≡ None → op ≡ ops.End
gives_open r ops.UnmuteAll is = absurd (none-some _ (sym is))
gives_open r (ops.Mute u) is = absurd (none-some _ (sym is))
gives_open r (ops.Branch range) is = absurd (none-some _ (sym is))
gives_open r ops.End is = refl

-- the run that the log has open is the queue's
run_is_open : (o : Opening) (h : List Entry) (s : QueueState) (run : Option RunState) → s.run ≡ run → open_run h ≡ None
    → StandsAfter o h s → run ≡ None
run_is_open o h s None is none after = refl
run_is_open o h s (Some r) is none after =
    absurd (none-some r.number
    (sym none ∙ run_opened o h s r is (subst (λ q. RunGoesOn q s.agent) is after.goes_on) after.stands))

run_gives : (o : Opening) (h : List Entry) (s : QueueState) (r : ℕ) (run : Option RunState) → s.run ≡ run
    → open_run h ≡ Some r → of_run run (next_op s.agent) ≡ None → StandsAfter o h s → ⊥
run_gives o h s r None is open_ none after = none-some r (sym (not_running o h s is after.stands).none_open ∙ open_)
run_gives o h s r (Some q) is open_ none after =
    subst (λ p. RunGoesOn p s.agent) is after.goes_on (gives_open q.number (next_op s.agent) none)

-- what to_send looks at, in order
to_send_free : (s : QueueState) → is_some s.awaited ≡ false → s.closed ≡ false → to_send s ≡ None
    → (if is_some s.run then run_to_send s else
    (if s.paused then None else
    (if s.under_way || (length s.asked == 0) then request_to_send s else run_to_send (begun s)))) ≡ None
to_send_free s free open_ none = rw (free, open_) at none

flag_of : (o : Opening) (h : List Entry) (s : QueueState) → awaited h ≡ false → StandsAfter o h s
    → is_some s.awaited ≡ false
flag_of o h s free after = pending_flag o h s s.awaited after.stands.awaited_is ∙ free

request_given : (o : Opening) (h : List Entry) (s : QueueState) (n : ℕ) (frame : ArrayVec ℕ) → to_send s ≡ None
    → StandsAfter o h s → MaySendRequest o h n frame → ⊥
request_given o h s n frame none after may = by_turn (cases_Bool (s.under_way || (length s.asked == 0)))
  where
    no_run : s.run ≡ None
    no_run = run_is_open o h s s.run refl may.no_run after

    left : (if s.under_way || (length s.asked == 0) then request_to_send s else run_to_send (begun s)) ≡ None
    left = rw (
      no_run,
      after.stands.paused_is
          ∙ may.not_paused,
    ) at (to_send_free s (flag_of o h s may.not_awaited after)
        (after.stands.closed_is ∙ may.not_closed) none)

    oldest : slice_get s.waiting 0 ≡ Some may.accepted
    oldest = ap (λ l. slice_get l 0) after.stands.waiting_are ∙ may.lowest

    number : n ≡ oldest_number o h
    number = may.number
        ∙ (unfinished_number o h (legal_facts o h after.legal.each) 0 may.accepted may.lowest ∙ omega arith)

    waits : (was_sent n h ≡ true) ⊎ (unserved h ≡ []) → (s.under_way || (length s.asked == 0)) ≡ false → ⊥
    waits (inl sent) t =
        false≢true (sym (or_parts s.under_way (length s.asked == 0) t).0
        ∙ (after.stands.under_way_is ∙ (ap (λ m. was_sent m h) (sym number) ∙ sent)))
    waits (inr empty) t =
        no_element s.asked
        (after.stands.asked_are ∙ (sym (all_unserved h (not_running o h s no_run after.stands).none_left) ∙ empty))
        (or_parts s.under_way (length s.asked == 0) t).1

    by_turn : ((s.under_way || (length s.asked == 0)) ≡ true) ⊎ ((s.under_way || (length s.asked == 0)) ≡ false) → ⊥
    by_turn (inl t) = none-some (OfRequest may.accepted) (sym (rw (t, oldest) at left))
    by_turn (inr t) = waits may.turn t

begin_given : (o : Opening) (h : List Entry) (s : QueueState) (r : ℕ) (frame : ArrayVec ℕ) → to_send s ≡ None
    → StandsAfter o h s → MaySendRun o h r frame → MayBegin o h r → ⊥
begin_given o h s r frame none after may begin = by_turn (cases_Bool (s.under_way || (length s.asked == 0)))
  where
    no_run : s.run ≡ None
    no_run = run_is_open o h s s.run refl begin.no_run after

    left : (if s.under_way || (length s.asked == 0) then request_to_send s else run_to_send (begun s)) ≡ None
    left = rw (
      no_run,
      after.stands.paused_is
          ∙ begin.not_paused,
    ) at (to_send_free s (flag_of o h s may.not_awaited after)
        (after.stands.closed_is ∙ may.not_closed) none)

    starts : next_op (begun s).agent ≡ ops.UnmuteAll
    starts = first_op (cases_lt 0 s.budget)
      where
        first_op : (0 < s.budget) ⊎ (s.budget ≤ 0) → next_op (begun s).agent ≡ ops.UnmuteAll
        first_op (inl some) = rw (lt-ltb 0 s.budget some) refl
        first_op (inr empty) = absurd (omega (arith, may.in_budget, after.stands.budget_is))

    way : s.under_way ≡ true → ⊥
    way is = sent_waits o h (legal_facts o h after.legal.each) (sym after.stands.under_way_is ∙ is) begin.no_request

    by_parts : (s.under_way ≡ true) ⊎ (s.under_way ≡ false) → (s.under_way || (length s.asked == 0)) ≡ true → ⊥
    by_parts (inl is) t = way is
    by_parts (inr not) t =
        begin.asked (all_unserved h (not_running o h s no_run after.stands).none_left
        ∙ (sym after.stands.asked_are ∙ none_asked s.asked (rw not at t)))

    by_turn : ((s.under_way || (length s.asked == 0)) ≡ true) ⊎ ((s.under_way || (length s.asked == 0)) ≡ false) → ⊥
    by_turn (inl t) = by_parts (cases_Bool s.under_way) t
    by_turn (inr t) = none-some (OfRun s.next_run ops.UnmuteAll) (sym (rw (t, starts) at left))

pub none_after : (o : Opening) (h : List Entry) (s : QueueState) → to_send s ≡ None → StandsAfter o h s → NoSend o h
none_after o h s none after (owners.Request n) frame may = request_given o h s n frame none after may
none_after o h s none after (owners.Run r) frame may = by_turn may.turn
  where
    by_turn : MayBegin o h r ⊎ (open_run h ≡ Some r) → ⊥
    by_turn (inl begin) = begin_given o h s r frame none after may begin
    by_turn (inr open_) =
        by_run s.run refl
        (to_send_free s (flag_of o h s may.not_awaited after) (after.stands.closed_is ∙ may.not_closed) none)
      where
        by_run : (run : Option RunState) → s.run ≡ run
            → (if is_some s.run then run_to_send s else
            (if s.paused then None else
            (if s.under_way || (length s.asked == 0) then request_to_send s else run_to_send (begun s)))) ≡ None → ⊥
        by_run None is gives = none-some r (sym (not_running o h s is after.stands).none_open ∙ open_)
        by_run (Some q) is gives = run_gives o h s r (Some q) is open_ (rw is at gives) after
