-- Runs begin one after another: what earlier runs serve was asked for before the last one.
use Rattle.rdm_log.proofs.Common.{◌≡◌, ℕ, ◌+◌, ◌<◌, ◌≤◌, Bool, true, false, List, [], ◌∷◌, ◌++◌, length, Option, Some}
use Rattle.rdm_log.proofs.Common.{None, slice_get, refl, sym, ap, ◌∙◌, inl, inr, length-append, fold, filter_map, arith}
use Rattle.rdm_log.proofs.Common.{drop, ◌⊎◌, ◌==◌, ◌||◌, list_any, before_first, cases_Bool, false≢true, eqb-true}
use Rattle.rdm_log.proofs.Common.{eq-eqb, or_parts, none-some, same_Some, ArrayVec, EachAfter, Owner, Opening, Entry}
use Rattle.rdm_log.proofs.Common.{Send, AskedDiscovery, Answered, Sending, asks, answers, sends, sending_of, is_run}
use Rattle.rdm_log.proofs.Common.{unanswered, run_of_owner, has_begun, entries_before_run, last_run, open_run}
use Rattle.rdm_log.proofs.Common.{asked_before, unserved, sends_run, has_answer, AllAnswered, MayBegin, MayFollow}
use Rattle.std.specs.Prelude.{◌-◌}
use Rattle.std.proofs.lemmas.Map.Keys.{any_passes_from_place}
use Rattle.rdm_log.specs.declared.entry.Owner.TheVariants as owners
use Rattle.rdm_log.proofs.LogLemmas.Indices.{all_from_indices, slice_get-drop, slice_get-append_left, index_within}
use Rattle.rdm_log.proofs.LogLemmas.Indices.{within_some}
use Rattle.rdm_log.proofs.LogLemmas.PushLemmas.{asks-append, sends-push}
use Rattle.rdm_log.proofs.LogLemmas.LegalFacts.{along}
use Rattle.rdm_log.proofs.LogLemmas.AskFacts.{AskFacts}
use Rattle.rdm_log.proofs.LogLemmas.RunFacts.{RunFacts, run_facts, open_is}
use Rattle.rdm_log.proofs.LogLemmas.RunLemmas.{sent_begins, last_run_same, last_run_sent, last_begun, begun_same}
use Rattle.rdm_log.proofs.LogLemmas.RunLemmas.{has_begun_more, entries_before_run_stays, not_sent, before_first-cons}

-- the entries before a run that begins
pub before_new : {X : Type 0} (p : X → Bool) (xs : List X) (y : X) → list_any p xs ≡ false → p y ≡ true
    → before_first p (xs ++ y ∷ []) ≡ xs
before_new p [] y none own = before_first-cons p y [] ∙ rw own refl
before_new p (x ∷ xs) y none own =
    let parts = or_parts (p x) (list_any p xs) none in
    before_first-cons p x (xs ++ y ∷ []) ∙ rw parts.0 (ap (λ l. x ∷ l) (before_new p xs y parts.1 own))

pub before_begun : (r : ℕ) (h : List Entry) (frame : ArrayVec ℕ) → has_begun r h ≡ false
    → entries_before_run r (h ++ Send (owners.Run r) frame ∷ []) ≡ h
unfolding has_begun entries_before_run
before_begun r h frame none = before_new (sends_run r) h (Send (owners.Run r) frame) none (eq-eqb r r refl)

pub begins_now : (r : ℕ) (h : List Entry) (frame : ArrayVec ℕ) → has_begun r h ≡ false
    → has_begun r (h ++ Send (owners.Run r) frame ∷ []) ≡ true
begins_now r h frame none = has_begun_more r h (Send (owners.Run r) frame) ∙ rw (none, eq-eqb r r refl) refl

pub all_unserved : (h : List Entry) → asked_before (last_run h) h ≤ length (answers h) → unserved h ≡ unanswered h
all_unserved h none = ap (λ n. drop n (unanswered h)) (zero_of _ _ none)
  where
    zero_of : (n m : ℕ) → n ≤ m → n - m ≡ 0
    zero_of n m p = omega arith

-- the entries before a run are a prefix of the log
front_of : (p : Entry → Bool) (xs : List Entry) → (ys : List Entry) × (xs ≡ before_first p xs ++ ys)
front_of p [] = ([], refl)
front_of p (x ∷ xs) = by_test (cases_Bool (p x)) (front_of p xs)
  where
    by_test : (p x ≡ true) ⊎ (p x ≡ false) → (ys : List Entry) × (xs ≡ before_first p xs ++ ys) → (ys : List Entry)
        × (x ∷ xs ≡ before_first p (x ∷ xs) ++ ys)
    by_test (inl here) rest =
        let none : before_first p (x ∷ xs) ≡ [] = before_first-cons p x xs ∙ rw here refl in
        (x ∷ xs, sym (ap (λ l. l ++ x ∷ xs) none))
    by_test (inr there) rest =
        let more : before_first p (x ∷ xs) ≡ x ∷ before_first p xs = before_first-cons p x xs ∙ rw there refl in
        (rest.0, ap (λ l. x ∷ l) rest.1 ∙ sym (ap (λ l. l ++ rest.0) more))

pub before_front : (r : ℕ) (h : List Entry) → (ys : List Entry) × (h ≡ entries_before_run r h ++ ys)
unfolding entries_before_run
before_front r h = front_of (sends_run r) h

-- no run has begun if none is the last
none_last : (q : ℕ) (first : Option ℕ) (ss : List Sending)
    → fold (λ before (s : Sending). run_of_owner before s.owner) first ss ≡ None → (first ≡ None)
    × (list_any (λ (s : Sending). is_run q s.owner) ss ≡ false)
none_last q first [] none = (none, refl)
none_last q first (s ∷ ss) none = by_owner s.owner (none_last q (run_of_owner first s.owner) ss none)
  where
    by_owner : (w : Owner) → (run_of_owner first w ≡ None) × (list_any (λ (t : Sending). is_run q t.owner) ss ≡ false)
        → (first ≡ None) × ((is_run q w || list_any (λ (t : Sending). is_run q t.owner) ss) ≡ false)
    by_owner (owners.Request n) rest = (rest.0, rest.1)
    by_owner (owners.Run x) rest = absurd (none-some x (sym rest.0))

pub none_begun : (q : ℕ) (h : List Entry) → last_run h ≡ None → has_begun q h ≡ true → ⊥
unfolding last_run has_begun sends
none_begun q h none begun =
    false≢true (sym (none_last q None (filter_map sending_of h) none).1 ∙ (sent_begins q h ∙ begun))

-- the entries before a run have no more Asks than the log
pub before_fewer : (r : ℕ) (h : List Entry) → length (asks (entries_before_run r h)) ≤ length (asks h)
before_fewer r h =
    let rest = before_front r h in
    let all = ap (λ l. length (asks l)) rest.1
    ∙ (ap (λ l. length l) (asks-append (entries_before_run r h) rest.0)
    ∙ length-append (asks (entries_before_run r h)) (asks rest.0)) in omega arith

pub asked_fewer : (h : List Entry) → asked_before (last_run h) h ≤ length (asks h)
asked_fewer h = by_last (last_run h)
  where
    by_last : (last : Option ℕ) → asked_before last h ≤ length (asks h)
    by_last None = omega arith
    by_last (Some r) = before_fewer r h

-- a run that has begun is the last, or what it serves was asked for before the last began
abbrev pub InOrder : List Entry → Type 0
InOrder h = (r : ℕ) → last_run h ≡ Some r → (q : ℕ) → has_begun q h ≡ true → (q ≡ r)
    ⊎ (length (asks (entries_before_run q h)) ≤ asked_before (last_run (entries_before_run r h))
    (entries_before_run r h))

carried : (h : List Entry) (e : Entry) → last_run (h ++ e ∷ []) ≡ last_run h
    → ((q : ℕ) → has_begun q (h ++ e ∷ []) ≡ true → (has_begun q h ≡ true) ⊎ (last_run h ≡ Some q)) → InOrder h
    → InOrder (h ++ e ∷ [])
carried h e same begins before r last q begun = by_old (begins q begun)
  where
    last_h : last_run h ≡ Some r
    last_h = sym same ∙ last

    stays : (x : ℕ) → has_begun x h ≡ true → entries_before_run x (h ++ e ∷ []) ≡ entries_before_run x h
    stays x b = entries_before_run_stays x h (e ∷ []) b

    by_old : (has_begun q h ≡ true) ⊎ (last_run h ≡ Some q) → (q ≡ r)
        ⊎ (length (asks (entries_before_run q (h ++ e ∷ []))) ≤ asked_before
        (last_run (entries_before_run r (h ++ e ∷ []))) (entries_before_run r (h ++ e ∷ [])))
    by_old (inr is) = inl (same_Some q r (sym is ∙ last_h))
    by_old (inl old) = rw (stays q old, stays r (last_begun r h last_h)) (before r last_h q old)

other_step : (h : List Entry) (e : Entry) → sending_of e ≡ None → InOrder h → InOrder (h ++ e ∷ [])
other_step h e send before =
    carried h e (last_run_same h (h ++ e ∷ []) (rw send at (sends-push h e)))
    (λ q begun. inl (sym (begun_same q h e (not_sent q e send)) ∙ begun)) before

request_step : (h : List Entry) (n : ℕ) (frame : ArrayVec ℕ) → InOrder h
    → InOrder (h ++ Send (owners.Request n) frame ∷ [])
request_step h n frame before =
    carried h _ (last_run_sent h (owners.Request n) frame) (λ q begun. inl (sym (begun_same q h _ refl) ∙ begun)) before

or_either : (a b : Bool) → (a || (b || false)) ≡ true → (a ≡ true) ⊎ (b ≡ true)
or_either true b is = inl refl
or_either false true is = inr refl
or_either false false is = absurd (false≢true is)

run_step : (o : Opening) (h : List Entry) (x : ℕ) (frame : ArrayVec ℕ) → RunFacts o h → MayBegin o h x
    ⊎ (open_run h ≡ Some x) → InOrder h → InOrder (h ++ Send (owners.Run x) frame ∷ [])
run_step o h x frame facts (inr is) before =
    carried h _ (last_run_sent h (owners.Run x) frame ∙ sym last)
    (λ q begun. by_own q (or_either (has_begun q h) (q == x) (sym (has_begun_more q h _) ∙ begun))) before
  where
    last : last_run h ≡ Some x
    last = (open_is h x is).last

    by_own : (q : ℕ) → (has_begun q h ≡ true) ⊎ ((q == x) ≡ true) → (has_begun q h ≡ true) ⊎ (last_run h ≡ Some q)
    by_own q (inl old) = inl old
    by_own q (inr own) = inr (last ∙ ap (λ n. Some n) (sym (eqb-true q x own)))
run_step o h x frame facts (inl begin) before =
    λ r last q begun. by_own r (same_Some x r (sym (last_run_sent h (owners.Run x) frame) ∙ last)) q
    (or_either (has_begun q h) (q == x) (sym (has_begun_more q h _) ∙ begun))
  where
    k : List Entry
    k = h ++ Send (owners.Run x) frame ∷ []

    unbegun : has_begun x h ≡ false
    unbegun = by_test (cases_Bool (has_begun x h))
      where
        by_test : (has_begun x h ≡ true) ⊎ (has_begun x h ≡ false) → has_begun x h ≡ false
        by_test (inl started) = absurd (omega (arith, begin.number, (facts.begun_below x started).1))
        by_test (inr not) = not

    fewer : (q : ℕ) → has_begun q h ≡ true → length (asks (entries_before_run q h)) ≤ asked_before (last_run h) h
    fewer q old = by_last (last_run h) refl
      where
        by_last : (last : Option ℕ) → last_run h ≡ last → length (asks (entries_before_run q h)) ≤ asked_before last h
        by_last None none = absurd (none_begun q h none old)
        by_last (Some p) is = by_same (before p is q old)
          where
            by_same : (q ≡ p)
                ⊎ (length (asks (entries_before_run q h)) ≤ asked_before (last_run (entries_before_run p h))
                (entries_before_run p h))
                → length (asks (entries_before_run q h)) ≤ length (asks (entries_before_run p h))
            by_same (inl same) = rw same (omega arith)
            by_same (inr less) = let most = asked_fewer (entries_before_run p h) in omega arith

    by_own : (r : ℕ) → x ≡ r → (q : ℕ) → (has_begun q h ≡ true) ⊎ ((q == x) ≡ true) → (q ≡ r)
        ⊎ (length (asks (entries_before_run q k)) ≤ asked_before (last_run (entries_before_run r k))
        (entries_before_run r k))
    by_own r same q (inr own) = inl (eqb-true q x own ∙ same)
    by_own r same q (inl old) =
        inr (rw (
          ← same,
          before_begun x h frame unbegun,
          entries_before_run_stays q h (Send (owners.Run x) frame ∷ []) old,
        ) (fewer q old))

in_order_step : (o : Opening) (h : List Entry) (e : Entry) → EachAfter (MayFollow o) h → InOrder h → MayFollow o h e
    → InOrder (h ++ e ∷ [])
in_order_step o h (Send owner frame) each before may = by_owner owner may
  where
    by_owner : (w : Owner) → MayFollow o h (Send w frame) → InOrder (h ++ Send w frame ∷ [])
    by_owner (owners.Request n) m = request_step h n frame before
    by_owner (owners.Run x) m = run_step o h x frame (run_facts o h each) m.1.turn before
in_order_step o h e each before may = other_step h e refl before

pub in_order : (o : Opening) (h : List Entry) → EachAfter (MayFollow o) h → InOrder h
unfolding last_run sends
in_order o h each = along o InOrder (λ r last. absurd (none-some r last)) (in_order_step o) h each

-- a run whose discoveries were asked before as many Asks as are answered has answered them all
pub all_answered : (o : Opening) (h : List Entry) (q : ℕ) → AskFacts o h
    → (has_begun q h ≡ true → length (asks (entries_before_run q h)) ≤ length (answers h)) → AllAnswered q h
all_answered o h q facts fewer = by_begun (cases_Bool (has_begun q h))
  where
    early : List Entry
    early = entries_before_run q h

    skipped : ℕ
    skipped = asked_before (last_run early) early - length (answers early)

    answered : (has_begun q h ≡ true) → (i : ℕ) (a : AskedDiscovery) → slice_get (unserved early) i ≡ Some a
        → has_answer a.number h ≡ true
    answered begun i a at = by_answer (slice_get (answers h) index) refl
      where
        index : ℕ
        index = length (answers early) + (skipped + i)

        early_at : slice_get (asks early) index ≡ Some a
        early_at = sym (slice_get-drop (length (answers early)) (asks early) (skipped + i))
            ∙ (sym (slice_get-drop skipped (unanswered early) i) ∙ at)

        rest : (ys : List Entry) × (h ≡ early ++ ys)
        rest = before_front q h

        number : a.number ≡ o.next_ask + index
        number = facts.ask_numbers index a
            (ap (λ l. slice_get l index) (ap (λ l. asks l) rest.1 ∙ asks-append early rest.0)
            ∙ slice_get-append_left (asks early) (asks rest.0) index a early_at)

        within : index < length (answers h)
        within = let inside = index_within (asks early) index a early_at in let all = fewer begun in omega arith

        by_answer : (b : Option Answered) → slice_get (answers h) index ≡ b → has_answer a.number h ≡ true
        by_answer None none = absurd (within_some (answers h) index within none)
        by_answer (Some b) is =
            any_passes_from_place (λ (x : Answered). x.number == a.number) (answers h) index b is
            (eq-eqb b.number a.number (facts.answer_numbers index b is ∙ sym number))

    by_begun : (has_begun q h ≡ true) ⊎ (has_begun q h ≡ false) → AllAnswered q h
    by_begun (inl begun) =
        rw begun (all_from_indices (λ a. has_answer a.number h ≡ true) (unserved early) (answered begun))
    by_begun (inr not) = rw not tt
