-- A discovery that a run serves is answered by no other run.
use Rattle.rdm_log.proofs.Common.{◌≡◌, ℕ, ◌+◌, ◌-◌, ◌≤◌, ◌<◌, Bool, true, false, cond, List, [], ◌∷◌, ◌++◌, length}
use Rattle.rdm_log.proofs.Common.{take, drop, Option, Some, None, slice_get, refl, sym, ap, ◌∙◌, inl, inr, arith}
use Rattle.rdm_log.proofs.Common.{length-append, length-drop, ◌⊎◌, ◌==◌, Contains, list_any, before_first}
use Rattle.rdm_log.proofs.Common.{position_or_len, cases_Bool, false≢true, eqb-true, eq-eqb, none-some}
use Rattle.rdm_log.proofs.Common.{slice_get-get_or, slice_get_within, take-append-drop, ArrayVec, EachAfter, AgentFault}
use Rattle.rdm_log.proofs.Common.{Opening, Entry, Send, Answer, AskedDiscovery, Answered, answered_of, asks, answers}
use Rattle.rdm_log.proofs.Common.{unanswered, sends_run, has_begun, entries_before_run, last_run, asked_before}
use Rattle.rdm_log.proofs.Common.{unserved, served, open_run, MayBegin, MayAnswer, MayFollow}
use Rattle.rdm_log.specs.declared.entry.Owner.TheVariants as owners
use Rattle.rdm_log.specs.log.MayAnswer.{MayAnswerUnserved}
use Rattle.rdm_log.proofs.LogLemmas.Grows.{front, pushed}
use Rattle.rdm_log.proofs.LogLemmas.Indices.{slice_get-drop, slice_get-push, IsPushed}
use Rattle.rdm_log.proofs.LogLemmas.PushLemmas.{asks-append, sends-push, answers-push}
use Rattle.rdm_log.proofs.LogLemmas.LegalFacts.{along}
use Rattle.rdm_log.proofs.LogLemmas.AskFacts.{AskFacts, ask_facts, unanswered_number}
use Rattle.rdm_log.proofs.LogLemmas.RunLemmas.{not_sent, last_run_same, last_run_sent, begun_same, last_begun}
use Rattle.rdm_log.proofs.LogLemmas.RunLemmas.{before_first-cons, entries_before_run_stays, served_same, served_stays}
use Rattle.rdm_log.proofs.LogLemmas.RunFacts.{run_facts, open_is, any_from_index}
use Rattle.rdm_log.proofs.LogLemmas.BegunLemmas.{before_fewer, before_new as before_pushed}

-- the entries before a run are a prefix of the log
before_is_front : (o : Opening) (h : List Entry) (r : ℕ) → EachAfter (MayFollow o) h
    → EachAfter (MayFollow o) (entries_before_run r h)
unfolding entries_before_run
before_is_front o h r each = front o (take n h) (drop n h) (rw take-append-drop each)
  where
    n : ℕ
    n = position_or_len (sends_run r) h

before_stays : (r q : ℕ) (h : List Entry) → has_begun q (entries_before_run r h) ≡ true
    → entries_before_run q h ≡ entries_before_run q (entries_before_run r h)
unfolding entries_before_run
before_stays r q h begun =
    ap (λ (l : List Entry). entries_before_run q l) (sym (take-append-drop n h))
    ∙ entries_before_run_stays q (take n h) (drop n h) begun
  where
    n : ℕ
    n = position_or_len (sends_run r) h

-- of two runs one began before the other
one_before : {X : Type 0} (p q : X → Bool) (xs : List X) → ((x : X) → p x ≡ true → q x ≡ true → ⊥)
    → list_any p xs ≡ true → list_any q xs ≡ true → (list_any p (before_first q xs) ≡ true)
    ⊎ (list_any q (before_first p xs) ≡ true)
one_before p q [] apart some other = absurd (false≢true some)
one_before {X} p q (x ∷ xs) apart some other =
    rw (before_first-cons p x xs, before_first-cons q x xs)
    (by_tests (cases_Bool (p x)) (cases_Bool (q x)) (one_before p q xs apart))
  where
    by_tests : (p x ≡ true) ⊎ (p x ≡ false) → (q x ≡ true) ⊎ (q x ≡ false)
        → (list_any p xs ≡ true → list_any q xs ≡ true → (list_any p (before_first q xs) ≡ true)
        ⊎ (list_any q (before_first p xs) ≡ true))
        → (list_any p (cond (q x) [] (x ∷ before_first q xs)) ≡ true)
        ⊎ (list_any q (cond (p x) [] (x ∷ before_first p xs)) ≡ true)
    by_tests (inl here) (inl there) later = absurd (apart x here there)
    by_tests (inl here) (inr not) later = inl (rw (not, here) refl)
    by_tests (inr not) (inl there) later = inr (rw (not, there) refl)
    by_tests (inr not_p) (inr not_q) later = rw (not_p, not_q, not_p) (later (rw not_p at some) (rw not_q at other))

runs_apart : (r q : ℕ) → (r ≡ q → ⊥) → (e : Entry) → sends_run r e ≡ true → sends_run q e ≡ true → ⊥
runs_apart r q apart (Send (owners.Run m) frame) is_r is_q = apart (eqb-true r m is_r ∙ sym (eqb-true q m is_q))
runs_apart r q apart (Send (owners.Request n) frame) is_r is_q = false≢true is_r
runs_apart r q apart _ is_r is_q = false≢true is_r

which_first : (r q : ℕ) (h : List Entry) → (r ≡ q → ⊥) → has_begun r h ≡ true → has_begun q h ≡ true
    → (has_begun r (entries_before_run q h) ≡ true) ⊎ (has_begun q (entries_before_run r h) ≡ true)
unfolding has_begun entries_before_run
which_first r q h apart begun other = one_before (sends_run r) (sends_run q) h (runs_apart r q apart) begun other

-- what a run serves: an index among the Asks before it, after those asked for before the previous run
record IsServed (o : Opening) (h : List Entry) (r : ℕ) (a : AskedDiscovery) : Type 0 where
  begun : has_begun r h ≡ true
  index : ℕ
  within : index < length (asks (entries_before_run r h))
  unanswered_there : length (answers (entries_before_run r h)) ≤ index
  later : asked_before (last_run (entries_before_run r h)) (entries_before_run r h) ≤ index
  number : a.number ≡ o.next_ask + index

unserved_index : (o : Opening) (k : List Entry) → AskFacts o k → (i : ℕ) (a : AskedDiscovery)
    → slice_get (unserved k) i ≡ Some a → (j : ℕ) × (j < length (asks k)) × (length (answers k) ≤ j)
    × (asked_before (last_run k) k ≤ j) × (a.number ≡ o.next_ask + j)
unserved_index o k facts i a at =
    (j, slice_get_within (asks k) j a index, omega arith, omega arith, facts.ask_numbers j a index)
  where
    skipped : ℕ
    skipped = asked_before (last_run k) k - length (answers k)

    j : ℕ
    j = length (answers k) + (skipped + i)

    index : slice_get (asks k) j ≡ Some a
    index = sym (slice_get-drop (length (answers k)) (asks k) (skipped + i))
        ∙ (sym (slice_get-drop skipped (unanswered k) i) ∙ at)

is_served : (o : Opening) (h : List Entry) → EachAfter (MayFollow o) h → (r i : ℕ) (a : AskedDiscovery)
    → slice_get (served r h) i ≡ Some a → IsServed o h r a
is_served o h each r i a at = by_begun (cases_Bool (has_begun r h))
  where
    by_begun : (has_begun r h ≡ true) ⊎ (has_begun r h ≡ false) → IsServed o h r a
    by_begun (inl begun) =
        let found = unserved_index o (entries_before_run r h)
        (ask_facts o (entries_before_run r h) (before_is_front o h r each)) i a (rw begun at at) in
        record {
          begun = begun;
          index = found.0;
          within = found.1;
          unanswered_there = found.2;
          later = found.3;
          number = found.4;
        }
    by_begun (inr not) = absurd (none-some a (rw not at at))

-- no fewer were asked before the last run than before any other
abbrev AskedBefore : List Entry → Type 0
AskedBefore h = (q : ℕ) → has_begun q h ≡ true → length (asks (entries_before_run q h)) ≤ asked_before (last_run h) h

kept_before : (h : List Entry) (e : Entry) → last_run (h ++ e ∷ []) ≡ last_run h
    → asked_before (last_run (h ++ e ∷ [])) (h ++ e ∷ []) ≡ asked_before (last_run h) h
kept_before h e same = rw same (by_last (last_run h) refl)
  where
    by_last : (last : Option ℕ) → last_run h ≡ last → asked_before last (h ++ e ∷ []) ≡ asked_before last h
    by_last None is = refl
    by_last (Some r) is =
        ap (λ (l : List Entry). length (asks l)) (entries_before_run_stays r h (e ∷ []) (last_begun r h is))

before_kept : (h : List Entry) (e : Entry) → last_run (h ++ e ∷ []) ≡ last_run h
    → ((q : ℕ) → has_begun q (h ++ e ∷ []) ≡ true → has_begun q h ≡ true) → AskedBefore h → AskedBefore (h ++ e ∷ [])
before_kept h e same back before q begun =
    rw (kept_before h e same, entries_before_run_stays q h (e ∷ []) (back q begun)) (before q (back q begun))

before_new : (r : ℕ) (h : List Entry) (e : Entry) → has_begun r h ≡ false → sends_run r e ≡ true
    → entries_before_run r (h ++ e ∷ []) ≡ h
unfolding has_begun entries_before_run
before_new r h e none sends = before_pushed (sends_run r) h e none sends

begun_of : (r q : ℕ) (h : List Entry) (e : Entry) → has_begun q (h ++ e ∷ []) ≡ true → (has_begun q h ≡ true)
    ⊎ (sends_run q e ≡ true)
begun_of r q h e begun = by_test (cases_Bool (has_begun q h)) (cases_Bool (sends_run q e))
  where
    by_test : (has_begun q h ≡ true) ⊎ (has_begun q h ≡ false) → (sends_run q e ≡ true) ⊎ (sends_run q e ≡ false)
        → (has_begun q h ≡ true) ⊎ (sends_run q e ≡ true)
    by_test (inl before) _ = inl before
    by_test (inr not) (inl here) = inr here
    by_test (inr not) (inr there) = absurd (false≢true (sym not ∙ sym (begun_same q h e there) ∙ begun))

before_run_send : (o : Opening) (h : List Entry) (r : ℕ) (frame : ArrayVec ℕ) → EachAfter (MayFollow o) h
    → MayBegin o h r ⊎ (open_run h ≡ Some r) → AskedBefore h → AskedBefore (h ++ Send (owners.Run r) frame ∷ [])
before_run_send o h r frame each (inr open_) before =
    before_kept h e (last_run_sent h (owners.Run r) frame ∙ sym last) back before
  where
    e : Entry
    e = Send (owners.Run r) frame

    last : last_run h ≡ Some r
    last = (open_is h r open_).last

    back : (q : ℕ) → has_begun q (h ++ e ∷ []) ≡ true → has_begun q h ≡ true
    back q begun = by_entry (begun_of r q h e begun)
      where
        by_entry : (has_begun q h ≡ true) ⊎ ((q == r) ≡ true) → has_begun q h ≡ true
        by_entry (inl before_) = before_
        by_entry (inr own) = rw (eqb-true q r own) (last_begun r h last)
before_run_send o h r frame each (inl begins) before = λ q begun. by_entry q (begun_of r q h e begun)
  where
    e : Entry
    e = Send (owners.Run r) frame

    none : has_begun r h ≡ false
    none = by_test (cases_Bool (has_begun r h))
      where
        by_test : (has_begun r h ≡ true) ⊎ (has_begun r h ≡ false) → has_begun r h ≡ false
        by_test (inl begun) = absurd (omega (arith, ((run_facts o h each).begun_below r begun).1, begins.number))
        by_test (inr not) = not

    all : asked_before (last_run (h ++ e ∷ [])) (h ++ e ∷ []) ≡ length (asks h)
    all = rw (last_run_sent h (owners.Run r) frame)
        (ap (λ (l : List Entry). length (asks l)) (before_new r h e none (eq-eqb r r refl)))

    by_entry : (q : ℕ) → (has_begun q h ≡ true) ⊎ ((q == r) ≡ true)
        → length (asks (entries_before_run q (h ++ e ∷ []))) ≤ asked_before (last_run (h ++ e ∷ [])) (h ++ e ∷ [])
    by_entry q (inl earlier) = rw (all, entries_before_run_stays q h (e ∷ []) earlier) (before_fewer q h)
    by_entry q (inr own) = rw (all, eqb-true q r own, before_new r h e none (eq-eqb r r refl)) (omega arith)

before_none : AskedBefore []
unfolding has_begun
before_none q begun = absurd (false≢true begun)

before_step : (o : Opening) (h : List Entry) (e : Entry) → EachAfter (MayFollow o) h → AskedBefore h → MayFollow o h e
    → AskedBefore (h ++ e ∷ [])
before_step o h (Send (owners.Run r) frame) each before may = before_run_send o h r frame each may.1.turn before
before_step o h (Send (owners.Request n) frame) each before may =
    before_kept h (Send (owners.Request n) frame) (last_run_sent h (owners.Request n) frame)
    (λ q begun. sym (begun_same q h (Send (owners.Request n) frame) refl) ∙ begun) before
before_step o h e each before may =
    before_kept h e (last_run_same h (h ++ e ∷ []) (sends-push h e))
    (λ q begun. sym (begun_same q h e (not_sent q e refl)) ∙ begun) before

asked_before_all : (o : Opening) (h : List Entry) → EachAfter (MayFollow o) h → AskedBefore h
asked_before_all o h each = along o AskedBefore before_none (before_step o) h each

-- no discovery is served by two runs
apart_served : (o : Opening) (h : List Entry) → EachAfter (MayFollow o) h → (r q : ℕ) (a b : AskedDiscovery)
    → IsServed o h r a → IsServed o h q b → a.number ≡ b.number → r ≡ q
apart_served o h each r q a b one other same = by_runs (cases_Bool (r == q))
  where
    earlier : (m n : ℕ) (x y : AskedDiscovery) → IsServed o h m x → IsServed o h n y → x.number ≡ y.number
        → has_begun m (entries_before_run n h) ≡ true → ⊥
    earlier m n x y first second alike begun =
        omega (
          arith,
          asked_before_all o (entries_before_run n h) (before_is_front o h n each) m begun,
          ap (λ (l : List Entry). length (asks l)) (before_stays n m h begun),
          first.within,
          second.later,
          first.number,
          second.number,
          alike,
        )

    by_order : (has_begun r (entries_before_run q h) ≡ true) ⊎ (has_begun q (entries_before_run r h) ≡ true) → ⊥
    by_order (inl first) = earlier r q a b one other same first
    by_order (inr first) = earlier q r b a other one (sym same) first

    by_runs : ((r == q) ≡ true) ⊎ ((r == q) ≡ false) → r ≡ q
    by_runs (inl is) = eqb-true r q is
    by_runs (inr not) =
        absurd (by_order (which_first r q h (λ is. false≢true (sym not ∙ eq-eqb r q is)) one.begun other.begun))

-- each Answer to a discovery that a run serves is that run's
abbrev ServedByOne : List Entry → Type 0
ServedByOne h =
    (i : ℕ) (b : Answered) (r j : ℕ) (a : AskedDiscovery) → slice_get (answers h) i ≡ Some b
    → slice_get (served r h) j ≡ Some a → b.number ≡ a.number → b.run ≡ r

by_one_none : ServedByOne []
unfolding answers
by_one_none i b r j a at there same = absurd (none-some b at)

by_one_same : (h : List Entry) (e : Entry) → answered_of e ≡ None → ((r : ℕ) → sends_run r e ≡ false) → ServedByOne h
    → ServedByOne (h ++ e ∷ [])
by_one_same h e answer sends before i b r j a at there same =
    before i b r j a (rw (answers-push h e, answer) at at) (rw (served_same r h e (sends r)) at there) same

by_one_sent : (o : Opening) (h : List Entry) (q : ℕ) (frame : ArrayVec ℕ) → EachAfter (MayFollow o) h
    → EachAfter (MayFollow o) (h ++ Send (owners.Run q) frame ∷ []) → ServedByOne h
    → ServedByOne (h ++ Send (owners.Run q) frame ∷ [])
by_one_sent o h q frame each later before i b r j a at there same = by_begun (cases_Bool (has_begun r h))
  where
    e : Entry
    e = Send (owners.Run q) frame

    facts : AskFacts o h
    facts = ask_facts o h each

    at_h : slice_get (answers h) i ≡ Some b
    at_h = rw (answers-push h e) at at

    clash : IsServed o (h ++ e ∷ []) r a → entries_before_run r (h ++ e ∷ []) ≡ h → ⊥
    clash is whole =
        omega (
          arith,
          is.unanswered_there,
          ap (λ (l : List Entry). length (answers l)) whole,
          is.number,
          same,
          facts.answer_numbers i b at_h,
          slice_get_within (answers h) i b at_h,
        )

    by_owner : has_begun r h ≡ false → ((r == q) ≡ true) ⊎ ((r == q) ≡ false) → b.run ≡ r
    by_owner none (inl own) = absurd (clash (is_served o (h ++ e ∷ []) later r j a there) (before_new r h e none own))
    by_owner none (inr other) = before i b r j a at_h (rw (served_same r h e other) at there) same

    by_begun : (has_begun r h ≡ true) ⊎ (has_begun r h ≡ false) → b.run ≡ r
    by_begun (inl begun) = before i b r j a at_h (rw (served_stays r h (e ∷ []) begun) at there) same
    by_begun (inr none) = by_owner none (cases_Bool (r == q))

by_one_answered : (o : Opening) (h : List Entry) (n q : ℕ) (fault : Option AgentFault) → EachAfter (MayFollow o) h
    → MayAnswer o h n q fault → ServedByOne h → ServedByOne (h ++ Answer n q fault ∷ [])
by_one_answered o h n q fault each may before i b r j a at there same =
    by_index (slice_get-push (answers h) x i b (rw (answers-push h e) at at))
  where
    e : Entry
    e = Answer n q fault

    x : Answered
    x = record { number = n; run = q; fault = fault }

    facts : AskFacts o h
    facts = ask_facts o h each

    there_h : slice_get (served r h) j ≡ Some a
    there_h = rw (served_same r h e refl) at there

    is : IsServed o h r a
    is = is_served o h each r j a there_h

    -- run 0 answers only what no run serves
    unserved_clash : n ≡ a.number → MayAnswerUnserved o h fault → ⊥
    unserved_clash alike u = omega (
      arith,
      ap length u.closing.runs_answered,
      length-drop (asked_before (last_run h) h - length (answers h)) (unanswered h),
      slice_get_within (unanswered h) 0 may.asked may.oldest,
      asked_before_all o h each r is.begun,
      is.within,
      is.number,
      alike,
      may.number,
      unanswered_number o h facts 0 may.asked may.oldest,
    )

    by_serving : n ≡ a.number → (k : ℕ) × (y : AskedDiscovery) × (slice_get (served q h) k ≡ Some y)
        × ((y.number == n) ≡ true) → q ≡ r
    by_serving alike found =
        sym (apart_served o h each r q a found.1 is (is_served o h each q found.0 found.1 found.2)
        (sym alike ∙ sym (eqb-true found.1.number n found.3)))

    new : n ≡ a.number → ((q == 0) ≡ true) ⊎ ((q == 0) ≡ false) → q ≡ r
    new alike (inl none) = absurd (unserved_clash alike (may.unserved (eqb-true q 0 none)))
    new alike (inr some) =
        by_serving alike
        (any_from_index (λ y. y.number == n) (served q h)
        (may.by_run (λ none. false≢true (sym some ∙ eq-eqb q 0 none))).serves)

    by_index : (slice_get (answers h) i ≡ Some b) ⊎ IsPushed (answers h) x i b → b.run ≡ r
    by_index (inl earlier) = before i b r j a earlier there_h same
    by_index (inr last) =
        ap (λ (y : Answered). y.run) last.is
        ∙ new (sym (ap (λ (y : Answered). y.number) last.is) ∙ same) (cases_Bool (q == 0))

by_one_step : (o : Opening) (h : List Entry) (e : Entry) → EachAfter (MayFollow o) h → ServedByOne h → MayFollow o h e
    → ServedByOne (h ++ e ∷ [])
by_one_step o h (Send (owners.Run q) frame) each before may =
    by_one_sent o h q frame each (pushed o h (Send (owners.Run q) frame) each may) before
by_one_step o h (Send (owners.Request n) frame) each before may =
    by_one_same h (Send (owners.Request n) frame) refl (λ r. refl) before
by_one_step o h (Answer n q fault) each before may = by_one_answered o h n q fault each may before
by_one_step o h e each before may = by_one_same h e refl (λ r. not_sent r e refl) before

pub served_by_one : (o : Opening) (h : List Entry) → EachAfter (MayFollow o) h
    → (r i : ℕ) (b : Answered) (a : AskedDiscovery) → slice_get (answers h) i ≡ Some b → Contains (served r h) a
    → b.number ≡ a.number → b.run ≡ r
served_by_one o h each r i b a at has same =
    along o ServedByOne by_one_none (by_one_step o) h each i b r has.0 a at
    (slice_get-get_or (served r h) has.0 a has.1 ∙ ap (λ y. Some y) has.2) same
