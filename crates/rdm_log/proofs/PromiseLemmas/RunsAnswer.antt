-- One run answers the discoveries that were asked for before it began, all alike.
use Rattle.rdm_log.proofs.Common.{◌≡◌, ℕ, ◌+◌, true, false, List, [], ◌∷◌, ◌++◌, length, Option, Some, slice_get}
use Rattle.rdm_log.proofs.Common.{refl, sym, ap, ◌∙◌, inl, inr, append_assoc, append-nil, ◌⊎◌, ◌≢◌, ◌==◌}
use Rattle.rdm_log.proofs.Common.{AllByRecursion, Contains, list_any, cases_Bool, false≢true, eqb-true, eq-eqb}
use Rattle.rdm_log.proofs.Common.{slice_get-map, slice_get-get_or, list_any-append, list_any_at, EachAfter, Device}
use Rattle.rdm_log.proofs.Common.{AgentFault, Owner, Opening, Entry, Send, Came, Answer, AskedDiscovery, Answered}
use Rattle.rdm_log.proofs.Common.{Sending, asks, answers, is_run, awaited, unanswered, has_begun, entries_before_run}
use Rattle.rdm_log.proofs.Common.{is_answered, open_run, last_run, asked_before, unserved, served, run_exchanges}
use Rattle.rdm_log.proofs.Common.{run_kind, answer_devices, has_answer, AllAnswered, MayAnswer, MayFollow, Legal}
use Rattle.rdm_log.proofs.Common.{DiscoveryValue, numbers_asked}
use Rattle.std.specs.Prelude.{◌-◌}
use Rattle.rdm_agent.specs.declared.kind.Kind.TheVariants as kinds
use Rattle.rdm_log.specs.declared.entry.Owner.TheVariants as owners
use Rattle.rdm_log.specs.log.Runs.{is_full_kind}
use Rattle.rdm_log.specs.promises.Discoveries.{RunsAnswer}
use Rattle.rdm_log.proofs.LogLemmas.Grows.{front}
use Rattle.rdm_log.proofs.LogLemmas.Indices.{all_at, slice_get-drop}
use Rattle.rdm_log.proofs.LogLemmas.PushLemmas.{answered-append, answers-push, sends-push, cames-push}
use Rattle.rdm_log.proofs.LogLemmas.ExchangeLemmas.{IsUnanswered}
use Rattle.rdm_log.proofs.LogLemmas.LegalFacts.{legal_facts, IsAwaited, IsRunAwaited, sent_evenly}
use Rattle.rdm_log.proofs.LogLemmas.RunLemmas.{entries_before_run_stays, run_exchanges_same, run_exchanges_sent}
use Rattle.rdm_log.proofs.LogLemmas.RunLemmas.{run_exchanges_came_other}
use Rattle.rdm_log.proofs.LogLemmas.RunFacts.{run_facts, open_is, any_from_index}
use Rattle.rdm_log.proofs.PromiseLemmas.OneRunServes.{served_by_one}
use Rattle.rdm_log.proofs.PromiseLemmas.StableResults.{contains_from_get}
use Rattle.std.proofs.Math.Bool.{or-true}

-- an Answer's run has begun
pub named_begun : (o : Opening) (h : List Entry) (n r : ℕ) (fault : Option AgentFault) → MayAnswer o h n r fault → r ≢ 0
    → has_begun r h ≡ true
named_begun o h n r fault may run = by_begun (cases_Bool (has_begun r h)) (may.by_run run).serves
  where
    by_begun : (has_begun r h ≡ true) ⊎ (has_begun r h ≡ false) → list_any (λ a. a.number == n) (served r h) ≡ true
        → has_begun r h ≡ true
    by_begun (inl begun) serves = begun
    by_begun (inr not) serves = absurd (false≢true (rw not at serves))

-- a run that isn't open has no exchange more
pub exchanges_step : (o : Opening) (h : List Entry) (e : Entry) → EachAfter (MayFollow o) h → MayFollow o h e → (r : ℕ)
    → (open_run h ≡ Some r → ⊥) → run_exchanges r (h ++ e ∷ []) ≡ run_exchanges r h
exchanges_step o h (Send owner frame) each may r left =
    run_exchanges_sent h owner frame r (sent_evenly o h (legal_facts o h each) (not_awaited owner may))
  where
    not_awaited : (w : Owner) → MayFollow o h (Send w frame) → awaited h ≡ false
    not_awaited (owners.Request n) m = m.1.not_awaited
    not_awaited (owners.Run q) m = m.1.not_awaited
exchanges_step o h (Came event) each may r left = by_owner ((legal_facts o h each).waits may.1)
  where
    by_run : (q : ℕ) (s : Sending) → IsUnanswered h s → (is_run r s.owner ≡ true) ⊎ (is_run r s.owner ≡ false)
        → run_exchanges r (h ++ Came event ∷ []) ≡ run_exchanges r h
    by_run q s is (inl own) = absurd (left ((run_facts o h each).waits may.1 s is r own))
    by_run q s is (inr other) = run_exchanges_came_other h s event r is other

    by_owner : IsAwaited h ⊎ IsRunAwaited h → run_exchanges r (h ++ Came event ∷ []) ≡ run_exchanges r h
    by_owner (inl w) =
        by_run 0 (record { owner = owners.Request w.accepted.number; frame = w.frame }) w.unanswered (inr refl)
    by_owner (inr w) =
        by_run w.run (record { owner = owners.Run w.run; frame = w.frame }) w.unanswered (cases_Bool (r == w.run))
exchanges_step o h e each may r left = run_exchanges_same h (h ++ e ∷ []) r (sends-push h e) (cames-push h e)

-- so it stays after an Answer of it
answered_stays : (r : ℕ) (h more : List Entry) → is_answered r h ≡ true → is_answered r (h ++ more) ≡ true
answered_stays r h more is =
    rw (answered-append h more) (list_any-append (λ b. b.run == r) (answers h) (answers more) ∙ rw is refl)

not_open : (h : List Entry) (r : ℕ) → is_answered r h ≡ true → open_run h ≡ Some r → ⊥
not_open h r is open_ = false≢true (sym (open_is h r open_).left ∙ is)

pub exchanges_stay : (o : Opening) (h more : List Entry) (r : ℕ) → EachAfter (MayFollow o) (h ++ more)
    → is_answered r h ≡ true → run_exchanges r (h ++ more) ≡ run_exchanges r h
exchanges_stay o h [] r each is = rw append-nil refl
exchanges_stay o h (e ∷ more) r each is =
    rw (append_assoc h (e ∷ []) more) at (exchanges_stay o (h ++ e ∷ []) more r (rw (append_assoc h (e ∷ []) more) each)
    (answered_stays r h (e ∷ []) is))
    ∙ exchanges_step o h e (front o h (e ∷ more) each) (each h more e refl) r (not_open h r is)

named_by : (h : List Entry) (n r : ℕ) (fault : Option AgentFault) → is_answered r (h ++ Answer n r fault ∷ []) ≡ true
named_by h n r fault =
    let b : Answered = record { number = n; run = r; fault = fault } in
    rw (answers-push h (Answer n r fault))
    (list_any-append (λ x. x.run == r) (answers h) (b ∷ [])
    ∙ rw (eq-eqb r r refl) (or-true (list_any (λ x. x.run == r) (answers h))))

pub ended : (o : Opening) (h : List Entry) → EachAfter (MayFollow o) h
    → (before back : List Entry) (n r : ℕ) (fault : Option AgentFault) → h ≡ before ++ Answer n r fault ∷ back
    → run_exchanges r h ≡ run_exchanges r before
ended o h each before back n r fault is =
    ap (run_exchanges r) (is ∙ sym (append_assoc before (e ∷ []) back))
    ∙ exchanges_stay o (before ++ e ∷ []) back r (rw (append_assoc before (e ∷ []) back, ← is) each)
    (named_by before n r fault)
    ∙ run_exchanges_same before (before ++ e ∷ []) r (sends-push before e) (cames-push before e)
  where
    e : Entry
    e = Answer n r fault

devices_stay : (h k : List Entry) (r : ℕ) → run_exchanges r k ≡ run_exchanges r h
    → answer_devices r k ≡ answer_devices r h
devices_stay h k r same = rw same refl

-- what a run serves was asked for before it began
asked_first : (o : Opening) (h : List Entry) → EachAfter (MayFollow o) h
    → (before back : List Entry) (n r : ℕ) (fault : Option AgentFault) → h ≡ before ++ Answer n r fault ∷ back → r ≢ 0
    → Contains (numbers_asked (asks (entries_before_run r h))) n
asked_first o h each before back n r fault is run =
    rw (is, entries_before_run_stays r before (Answer n r fault ∷ back) begun)
    (by_index (any_from_index (λ a. a.number == n) (unserved early) (rw begun at (may.by_run run).serves)))
  where
    may : MayAnswer o before n r fault
    may = each before back (Answer n r fault) is

    begun : has_begun r before ≡ true
    begun = named_begun o before n r fault may run

    early : List Entry
    early = entries_before_run r before

    skipped : ℕ
    skipped = asked_before (last_run early) early - length (answers early)

    by_index : (i : ℕ) × (a : AskedDiscovery) × (slice_get (unserved early) i ≡ Some a) × ((a.number == n) ≡ true)
        → Contains (numbers_asked (asks early)) n
    by_index found =
        let dropped = sym (slice_get-drop (length (answers early)) (asks early) (skipped + found.0))
        ∙ (sym (slice_get-drop skipped (unanswered early) found.0) ∙ found.2) in
        contains_from_get (numbers_asked (asks early)) (length (answers early) + (skipped + found.0)) n
        (slice_get-map (λ a. a.number) (asks early) (length (answers early) + (skipped + found.0))
        ∙ rw dropped (ap (λ m. Some m) (eqb-true found.1.number n found.3)))

-- all that it serves is answered
contains_index : {X : Type 0} (xs : List X) (x : X) (has : Contains xs x) → slice_get xs has.0 ≡ Some x
contains_index xs x has = slice_get-get_or xs has.0 x has.1 ∙ ap (λ y. Some y) has.2

all_served : (o : Opening) (h : List Entry) → Legal o h → (i : ℕ) (b : Answered) (a : AskedDiscovery)
    → slice_get (answers h) i ≡ Some b → Contains (served b.run h) a → has_answer a.number h ≡ true
all_served o h legal i b a at has =
    all_at (λ x. has_answer x.number h ≡ true) (served b.run h)
    (all_at (λ x. AllAnswered x.run h) (answers h) legal.settled.runs_answered i b at) has.0 a
    (contains_index (served b.run h) a has)

-- its kind
full : (r : ℕ) (h : List Entry) (a : AskedDiscovery) → Contains (served r h) a → a.kind ≡ kinds.Full
    → run_kind r h ≡ kinds.Full
full r h a has is = rw (list_any_at (λ x. is_full_kind x.kind) (served r h) has.0 a has.1 (rw (has.2, is) refl)) refl

none_full : (xs : List AskedDiscovery) → AllByRecursion (λ a. a.kind ≡ kinds.Incremental) xs
    → list_any (λ a. is_full_kind a.kind) xs ≡ false
none_full [] all = refl
none_full (a ∷ xs) all = rw all.0 (none_full xs all.1)

incremental : (r : ℕ) (h : List Entry) → AllByRecursion (λ a. a.kind ≡ kinds.Incremental) (served r h)
    → run_kind r h ≡ kinds.Incremental
incremental r h all = rw (none_full (served r h) all) refl

pub runs_answer : (o : Opening) (h : List Entry) → Legal o h → RunsAnswer o h
runs_answer o h legal = record {
  shows = λ front back n r fault is run. let may = legal.each front back (Answer n r fault) is in
      (may.by_run run).shows;
  full = λ r a has is. full r h a has is;
  incremental = λ r all. incremental r h all;
  begun = λ front back n r fault is run. named_begun o front n r fault (legal.each front back (Answer n r fault) is)
      run;
  asked_first = asked_first o h legal.each;
  agree = (run_facts o h legal.each).agree;
  all_served = all_served o h legal;
  by_one = served_by_one o h legal.each;
  ended = ended o h legal.each;
  stays = λ front back n r fault is.
      ap (λ (ds : List Device). Some (DiscoveryValue (Some n) (record { run = r; fault = fault; devices = ds })))
      (devices_stay front h r (ended o h legal.each front back n r fault is));
}
