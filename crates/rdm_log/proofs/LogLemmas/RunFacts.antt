-- What holds of the runs of a log in which each entry may follow those before it.
use Rattle.rdm_log.proofs.Common.{◌≡◌, ℕ, suc, ◌+◌, ◌≤◌, ◌<◌, Bool, true, false, List, [], ◌∷◌, ◌++◌, length, Option}
use Rattle.rdm_log.proofs.Common.{Some, None, slice_get, refl, sym, ap, ◌∙◌, inl, inr, arith, if◌then◌else◌, ◌⊎◌, ◌≢◌}
use Rattle.rdm_log.proofs.Common.{◌||◌, ◌==◌, AllByRecursion, list_any, cases_Bool, false≢true, eqb-true, eq-eqb}
use Rattle.rdm_log.proofs.Common.{none-some, same_Some, ArrayVec, EachAfter, Seen, Failed, LineEvent, AgentFault}
use Rattle.rdm_log.proofs.Common.{Opening, Entry, Send, Came, Answer, Sending, Answered, sending_of, came_of}
use Rattle.rdm_log.proofs.Common.{answered_of, sends, cames, traded, answers, is_run, awaits_after, awaited, has_begun}
use Rattle.rdm_log.proofs.Common.{last_run, is_answered, unless_answered, open_run, served, run_exchanges, GoesOn}
use Rattle.rdm_log.proofs.Common.{NothingDue, MayBegin, MaySendRun, MayAnswer, MayFollow}
use Rattle.rdm_agent.specs.Run.{FailureIsLast}
use Rattle.rdm_log.specs.declared.entry.Owner.TheVariants as owners
use Rattle.rdm_log.specs.log.Runs.{next_run}
use Rattle.rdm_log.proofs.LogLemmas.PushLemmas.{sends-push, cames-push, answers-push}
use Rattle.rdm_log.proofs.LogLemmas.PushLemmas.{awaited-push}
use Rattle.rdm_log.proofs.LogLemmas.ExchangeLemmas.{IsUnanswered}
use Rattle.rdm_log.proofs.LogLemmas.Indices.{slice_get-push, IsPushed, all_at, each_index_push}
use Rattle.rdm_log.proofs.LogLemmas.LegalFacts.{along, legal_facts, IsAwaited, IsRunAwaited, sent_evenly}
use Rattle.rdm_log.proofs.LogLemmas.RunLemmas.{not_sent, last_run_same, last_run_sent, has_begun_more, begun_stays}
use Rattle.rdm_log.proofs.LogLemmas.RunLemmas.{begun_same, last_begun, open_run_same, run_exchanges_same}
use Rattle.rdm_log.proofs.LogLemmas.RunLemmas.{run_exchanges_sent, run_exchanges_came_own, run_exchanges_came_other}
use Rattle.rdm_wire.proofs.EachAfterLemmas.{no_element}

-- the open run is the last one, and no Answer names it
pub record IsOpen (h : List Entry) (r : ℕ) : Type 0 where
  pub last : last_run h ≡ Some r
  pub left : is_answered r h ≡ false

pub open_is : (h : List Entry) (r : ℕ) → open_run h ≡ Some r → IsOpen h r
open_is h r is = by_last (last_run h) refl is
  where
    by_answered : (q : ℕ) → last_run h ≡ Some q → (is_answered q h ≡ true) ⊎ (is_answered q h ≡ false)
        → (if is_answered q h then None else Some q) ≡ Some r → IsOpen h r
    by_answered q last (inl answered) e = absurd (none-some r (rw answered at e))
    by_answered q last (inr left) e =
        let same : q ≡ r = same_Some q r (rw left at e) in record { last = rw (← same) last; left = rw (← same) left }

    by_last : (last : Option ℕ) → last_run h ≡ last → unless_answered last h ≡ Some r → IsOpen h r
    by_last None last e = absurd (none-some r e)
    by_last (Some q) last e = by_answered q last (cases_Bool (is_answered q h)) e

pub is_open : (h : List Entry) (r : ℕ) → IsOpen h r → open_run h ≡ Some r
is_open h r is = rw (is.last, is.left) refl

pub record RunFacts (o : Opening) (h : List Entry) : Type 0 where
  -- a run that has begun has a number before the next one's, and from 1
  pub begun_below : (r : ℕ) → has_begun r h ≡ true → (1 ≤ r) × (r < next_run o h)
  -- a run that an Answer names has begun
  pub named : (i : ℕ) (b : Answered) → slice_get (answers h) i ≡ Some b → b.run ≢ 0 → has_begun b.run h ≡ true
  -- a run whose frame awaits its reply is open
  pub waits : awaited h ≡ true → (s : Sending) → IsUnanswered h s → (r : ℕ) → is_run r s.owner ≡ true
      → open_run h ≡ Some r
  -- a run's Answers agree
  pub agree : (i j : ℕ) (a b : Answered) → slice_get (answers h) i ≡ Some a → slice_get (answers h) j ≡ Some b
      → a.run ≢ 0 → a.run ≡ b.run → a.fault ≡ b.fault
  -- no exchange follows a failure
  pub failures : (r : ℕ) → FailureIsLast (run_exchanges r h)

facts_of_empty : (o : Opening) → RunFacts o []
unfolding answers sends awaited has_begun run_exchanges traded
facts_of_empty o = record {
  begun_below = λ r begun. absurd (false≢true begun);
  named = λ i b at run. absurd (none-some b at);
  waits = λ waits s last r own. absurd (false≢true waits);
  agree = λ i j a b at_i at_j run same. absurd (none-some a at_i);
  failures = λ r front back e w failed. absurd (no_element front back e w);
}

-- an entry that is neither Send nor Came nor Answer
last_frame : (h k : List Entry) (s : Sending) → sends k ≡ sends h → cames k ≡ cames h → IsUnanswered k s
    → IsUnanswered h s
last_frame h k s sent came is = record {
  earlier = is.earlier;
  last = sym sent ∙ is.last;
  answered = is.answered ∙ ap length came;
}

facts_other : (o : Opening) (h : List Entry) (e : Entry) → sending_of e ≡ None → came_of e ≡ None → answered_of e ≡ None
    → awaits_after (awaited h) e ≡ awaited h → RunFacts o h → RunFacts o (h ++ e ∷ [])
facts_other o h e send came answer same facts = record {
  begun_below = λ r begun. rw last (facts.begun_below r (sym (begun_same r h e (not_sent r e send)) ∙ begun));
  named = λ i b at run. begun_stays b.run h (e ∷ []) (facts.named i b (rw (answers-push h e, answer) at at) run);
  waits = λ waits s is r own. open_run_same h k (rw send at (sends-push h e)) (rw answer at (answers-push h e))
      ∙ facts.waits (sym (awaited-push h e ∙ same) ∙ waits) s
      (last_frame h k s (rw send at (sends-push h e)) (rw came at (cames-push h e)) is) r own;
  agree = rw (answers-push h e, answer) facts.agree;
  failures =
      λ r. rw (run_exchanges_same h k r (rw send at (sends-push h e)) (rw came at (cames-push h e))) (facts.failures r);
}
  where
    k : List Entry
    k = h ++ e ∷ []

    last : last_run k ≡ last_run h
    last = last_run_same h k (rw send at (sends-push h e))

last_of : (xs ys : List Sending) (x y : Sending) → xs ++ x ∷ [] ≡ ys ++ y ∷ [] → x ≡ y
last_of [] [] x y e = cc
last_of [] (z ∷ []) x y e = cc
last_of [] (z ∷ w ∷ ys) x y e = cc
last_of (z ∷ []) [] x y e = cc
last_of (z ∷ w ∷ xs) [] x y e = cc
last_of (z ∷ xs) (w ∷ ys) x y e = last_of xs ys x y (tail e)
  where
    tail : z ∷ (xs ++ x ∷ []) ≡ w ∷ (ys ++ y ∷ []) → xs ++ x ∷ [] ≡ ys ++ y ∷ []
    tail e = cc

facts_request_send : (o : Opening) (h : List Entry) (n : ℕ) (frame : ArrayVec ℕ) → length (sends h) ≡ length (cames h)
    → RunFacts o h → RunFacts o (h ++ Send (owners.Request n) frame ∷ [])
facts_request_send o h n frame even facts = record {
  begun_below =
      λ r begun. rw (last_run_sent h (owners.Request n) frame)
      (facts.begun_below r (sym (begun_same r h e refl) ∙ begun));
  named = λ i b at run. begun_stays b.run h (e ∷ []) (facts.named i b (rw (answers-push h e) at at) run);
  waits = λ waits s is r
      own. absurd (no_run r s own (last_of (sends h) is.earlier x s (sym (sends-push h e) ∙ is.last)));
  agree = rw (answers-push h e) facts.agree;
  failures = λ r. rw (run_exchanges_sent h (owners.Request n) frame r even) (facts.failures r);
}
  where
    e : Entry
    e = Send (owners.Request n) frame

    x : Sending
    x = record { owner = owners.Request n; frame = frame }

    no_run : (r : ℕ) (s : Sending) → is_run r s.owner ≡ true → x ≡ s → ⊥
    no_run r s own same = false≢true (rw (← same) at own)

-- a run's frame
pub after_begin : (o : Opening) (h : List Entry) (r : ℕ) → MayBegin o h r ⊎ (open_run h ≡ Some r) → RunFacts o h
    → (1 ≤ r) × (next_run o h ≤ r + 1)
after_begin o h r (inl may) facts = (may.from_one, omega (arith, may.number))
after_begin o h r (inr is) facts =
    let last = (open_is h r is).last in ((facts.begun_below r (last_begun r h last)).0, rw last (omega arith))

-- no Answer names a run that begins
pub any_from_index : {X : Type 0} (p : X → Bool) (xs : List X) → list_any p xs ≡ true → (i : ℕ) × (x : X)
    × (slice_get xs i ≡ Some x) × (p x ≡ true)
any_from_index p [] e = absurd (false≢true e)
any_from_index {X} p (x ∷ xs) e = by_test (cases_Bool (p x)) (any_from_index p xs)
  where
    by_test : (p x ≡ true) ⊎ (p x ≡ false)
        → (list_any p xs ≡ true → (i : ℕ) × (y : X) × (slice_get xs i ≡ Some y) × (p y ≡ true)) → (i : ℕ) × (y : X)
        × (slice_get (x ∷ xs) i ≡ Some y) × (p y ≡ true)
    by_test (inl here) later = (0, x, refl, here)
    by_test (inr there) later = let found = later (rw there at e) in (suc found.0, found.1, found.2, found.3)

pub never_named : (o : Opening) (h : List Entry) (r : ℕ) → RunFacts o h → 1 ≤ r → next_run o h ≤ r
    → is_answered r h ≡ false
never_named o h r facts from above = by_test (cases_Bool (is_answered r h))
  where
    impossible : (i : ℕ) × (b : Answered) × (slice_get (answers h) i ≡ Some b) × ((b.run == r) ≡ true) → ⊥
    impossible found =
        let same : found.1.run ≡ r = eqb-true found.1.run r found.3 in
        let below = facts.begun_below found.1.run
        (facts.named found.0 found.1 found.2 (λ none. no_zero (sym same ∙ none))) in
        omega (arith, below.1, same)
      where
        no_zero : r ≡ 0 → ⊥
        no_zero none = omega arith

    by_test : (is_answered r h ≡ true) ⊎ (is_answered r h ≡ false) → is_answered r h ≡ false
    by_test (inl named) = absurd (impossible (any_from_index (λ b. b.run == r) (answers h) named))
    by_test (inr left) = left

pub opened_by : (o : Opening) (h : List Entry) (r : ℕ) (frame : ArrayVec ℕ) → RunFacts o h → MaySendRun o h r frame
    → open_run (h ++ Send (owners.Run r) frame ∷ []) ≡ Some r
opened_by o h r frame facts may = is_open k r (record {
  last = last_run_sent h (owners.Run r) frame;
  left = rw (answers-push h (Send (owners.Run r) frame)) (by_turn may.turn);
})
  where
    k : List Entry
    k = h ++ Send (owners.Run r) frame ∷ []

    by_turn : MayBegin o h r ⊎ (open_run h ≡ Some r) → is_answered r h ≡ false
    by_turn (inl begins) = never_named o h r facts begins.from_one (omega (arith, begins.number))
    by_turn (inr is) = (open_is h r is).left

facts_run_send : (o : Opening) (h : List Entry) (r : ℕ) (frame : ArrayVec ℕ) → length (sends h) ≡ length (cames h)
    → RunFacts o h → MaySendRun o h r frame → RunFacts o (h ++ Send (owners.Run r) frame ∷ [])
facts_run_send o h r frame even facts may = record {
  begun_below = λ q begun. by_begun q (cases_Bool (has_begun q h)) begun;
  named = λ i b at run. begun_stays b.run h (e ∷ []) (facts.named i b (rw (answers-push h e) at at) run);
  waits = λ waits s is q
      own. rw (own_of q s own (last_of (sends h) is.earlier x s (sym (sends-push h e) ∙ is.last)))
      (opened_by o h r frame facts may);
  agree = rw (answers-push h e) facts.agree;
  failures = λ q. rw (run_exchanges_sent h (owners.Run r) frame q even) (facts.failures q);
}
  where
    e : Entry
    e = Send (owners.Run r) frame

    k : List Entry
    k = h ++ e ∷ []

    x : Sending
    x = record { owner = owners.Run r; frame = frame }

    bounds : (1 ≤ r) × (next_run o h ≤ r + 1)
    bounds = after_begin o h r may.turn facts

    next : next_run o k ≡ r + 1
    next = rw (last_run_sent h (owners.Run r) frame) refl

    own_of : (q : ℕ) (s : Sending) → is_run q s.owner ≡ true → x ≡ s → q ≡ r
    own_of q s own same = let here : is_run q (owners.Run r) ≡ true = rw (← same) at own in eqb-true q r here

    by_begun : (q : ℕ) → (has_begun q h ≡ true) ⊎ (has_begun q h ≡ false) → has_begun q k ≡ true → (1 ≤ q)
        × (q < next_run o k)
    by_begun q (inl before) begun =
        let below = facts.begun_below q before in (below.0, omega (arith, below.1, bounds.1, next))
    by_begun q (inr not) begun =
        let same : q ≡ r = eqb-true q r (or_none (q == r) (sym (has_begun_more q h e ∙ rw not refl) ∙ begun)) in
        (omega (arith, same, bounds.0), omega (arith, same, next))
      where
        or_none : (b : Bool) → (b || false) ≡ true → b ≡ true
        or_none true e = refl
        or_none false e = e

-- what came
facts_came : (o : Opening) (h : List Entry) (event : LineEvent) → EachAfter (MayFollow o) h → NothingDue o h
    → awaited h ≡ true → RunFacts o h → RunFacts o (h ++ Came event ∷ [])
facts_came o h event each due waits facts = record {
  begun_below =
      λ r begun. rw (last_run_same h k (sends-push h e))
      (facts.begun_below r (sym (begun_same r h e refl) ∙ begun));
  named = λ i b at run. begun_stays b.run h (e ∷ []) (facts.named i b (rw (answers-push h e) at at) run);
  waits = λ still s is r own. absurd (false≢true (sym (awaited-push h e) ∙ still));
  agree = rw (answers-push h e) facts.agree;
  failures = λ r. by_owner r ((legal_facts o h each).waits waits);
}
  where
    e : Entry
    e = Came event

    k : List Entry
    k = h ++ e ∷ []

    push_failure : (x : List Seen) (y : Seen) → AllByRecursion (λ z. z.heard ≢ Failed) x → FailureIsLast (x ++ y ∷ [])
    push_failure [] y none [] back z w failed = cc
    push_failure [] y none (f ∷ front) back z w failed = absurd (past front back z w)
      where
        past : (front back : List Seen) (z : Seen) → y ∷ [] ≡ f ∷ (front ++ z ∷ back) → ⊥
        past [] back z w = cc
        past (g ∷ front) back z w = cc
    push_failure (u ∷ x) y none [] back z w failed = absurd (none.0 (ap (λ (v : Seen). v.heard) first ∙ failed))
      where
        first : u ≡ z
        first = cc
    push_failure (u ∷ x) y none (f ∷ front) back z w failed = push_failure x y none.1 front back z tail failed
      where
        tail : x ++ y ∷ [] ≡ front ++ z ∷ back
        tail = cc

    goes : (r : ℕ) → open_run h ≡ Some r → GoesOn o h r
    goes r is = rw is at due.run_goes_on

    by_run : (r q : ℕ) (frame : ArrayVec ℕ) → IsUnanswered h (record { owner = owners.Run q; frame = frame })
        → ((r == q) ≡ true) ⊎ ((r == q) ≡ false) → FailureIsLast (run_exchanges r k)
    by_run r q frame is (inl own) =
        let s : Sending = record { owner = owners.Run q; frame = frame } in
        rw (run_exchanges_came_own h s event r is own)
        (push_failure (run_exchanges r h) _ (goes r (facts.waits waits s is r own)).no_failure)
    by_run r q frame is (inr other) =
        rw (run_exchanges_came_other h (record { owner = owners.Run q; frame = frame }) event r is other)
        (facts.failures r)

    by_owner : (r : ℕ) → IsAwaited h ⊎ IsRunAwaited h → FailureIsLast (run_exchanges r k)
    by_owner r (inl w) =
        rw (run_exchanges_came_other h (record { owner = owners.Request w.accepted.number; frame = w.frame }) event r
        w.unanswered refl) (facts.failures r)
    by_owner r (inr w) = by_run r w.run w.frame w.unanswered (cases_Bool (r == w.run))

-- an Answer
facts_answer : (o : Opening) (h : List Entry) (n r : ℕ) (fault : Option AgentFault) → MayAnswer o h n r fault
    → RunFacts o h → RunFacts o (h ++ Answer n r fault ∷ [])
facts_answer o h n r fault may facts = record {
  begun_below =
      λ q begun. rw (last_run_same h k (sends-push h e))
      (facts.begun_below q (sym (begun_same q h e refl) ∙ begun));
  named = rw more
      (each_index_push (λ i x. x.run ≢ 0 → has_begun x.run k ≡ true) (answers h) b
      (λ i x at run. begun_stays x.run h (e ∷ []) (facts.named i x at run))
      (λ run. begun_stays r h (e ∷ []) (named_begun run)));
  waits = λ still s is q own. absurd (not_awaited_true (sym (awaited-push h e) ∙ still));
  agree = rw more agree;
  failures = λ q. rw (run_exchanges_same h k q (sends-push h e) (cames-push h e)) (facts.failures q);
}
  where
    e : Entry
    e = Answer n r fault

    k : List Entry
    k = h ++ e ∷ []

    b : Answered
    b = record { number = n; run = r; fault = fault }

    more : answers k ≡ answers h ++ b ∷ []
    more = answers-push h e

    named_begun : r ≢ 0 → has_begun r h ≡ true
    named_begun run = by_begun (cases_Bool (has_begun r h)) (may.by_run run).serves
      where
        by_begun : (has_begun r h ≡ true) ⊎ (has_begun r h ≡ false) → list_any (λ a. a.number == n) (served r h) ≡ true
            → has_begun r h ≡ true
        by_begun (inl begun) serves = begun
        by_begun (inr not) serves = absurd (false≢true (rw not at serves))

    not_awaited_true : awaited h ≡ true → ⊥
    not_awaited_true waits = by_run (cases_Bool (r == 0))
      where
        by_run : ((r == 0) ≡ true) ⊎ ((r == 0) ≡ false) → ⊥
        by_run (inl none) = false≢true (sym (may.unserved (eqb-true r 0 none)).closing.not_awaited ∙ waits)
        by_run (inr some) =
            false≢true (sym (may.by_run (λ none. false≢true (sym some ∙ eq-eqb r 0 none))).not_awaited ∙ waits)

    agree_last : (i : ℕ) (a : Answered) → slice_get (answers h) i ≡ Some a → r ≢ 0 → a.run ≡ r → a.fault ≡ fault
    agree_last i a at run same =
        all_at (λ x. (x.run ≡ r) → x.fault ≡ fault) (answers h) (may.by_run run).agrees i a at same

    agree : (i j : ℕ) (x y : Answered) → slice_get (answers h ++ b ∷ []) i ≡ Some x
        → slice_get (answers h ++ b ∷ []) j ≡ Some y → x.run ≢ 0 → x.run ≡ y.run → x.fault ≡ y.fault
    agree i j x y at_i at_j run same =
        by_indices (slice_get-push (answers h) b i x at_i) (slice_get-push (answers h) b j y at_j)
      where
        by_indices : (slice_get (answers h) i ≡ Some x) ⊎ IsPushed (answers h) b i x
            → (slice_get (answers h) j ≡ Some y) ⊎ IsPushed (answers h) b j y → x.fault ≡ y.fault
        by_indices (inl first) (inl second) = facts.agree i j x y first second run same
        by_indices (inl first) (inr second) =
            rw second.is
            (agree_last i x first (λ none. run (same ∙ ap (λ (z : Answered). z.run) second.is ∙ none))
            (same ∙ ap (λ (z : Answered). z.run) second.is))
        by_indices (inr first) (inl second) =
            rw first.is
            (sym (agree_last j y second (λ none. run (ap (λ (z : Answered). z.run) first.is ∙ none))
            (sym same ∙ ap (λ (z : Answered). z.run) first.is)))
        by_indices (inr first) (inr second) = rw (first.is, second.is) refl

facts_step : (o : Opening) (h : List Entry) (e : Entry) → EachAfter (MayFollow o) h → RunFacts o h → MayFollow o h e
    → RunFacts o (h ++ e ∷ [])
facts_step o h (Send (owners.Request n) frame) each facts may =
    facts_request_send o h n frame (sent_evenly o h (legal_facts o h each) may.1.not_awaited) facts
facts_step o h (Send (owners.Run r) frame) each facts may =
    facts_run_send o h r frame (sent_evenly o h (legal_facts o h each) may.1.not_awaited) facts may.1
facts_step o h (Came event) each facts may = facts_came o h event each may.0 may.1 facts
facts_step o h (Answer n r fault) each facts may = facts_answer o h n r fault may facts
facts_step o h e each facts may = facts_other o h e refl refl refl refl facts

-- the facts of each such log
pub run_facts : (o : Opening) (h : List Entry) → EachAfter (MayFollow o) h → RunFacts o h
run_facts o h each = along o (λ k. RunFacts o k) (facts_of_empty o) (facts_step o) h each
