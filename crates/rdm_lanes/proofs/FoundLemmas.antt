-- The views of a log: how they go on as it grows.
use Rattle.rdm_lanes.proofs.Common.{◌≡◌, ℕ, zero, suc, ◌+◌, ◌<◌, Bool, true, false, List, [], ◌∷◌, ◌++◌, length, map}
use Rattle.rdm_lanes.proofs.Common.{fold, Option, Some, None, slice_get, refl, sym, ap, ◌∙◌, subst, inl, inr}
use Rattle.rdm_lanes.proofs.Common.{append-nil, append_assoc, length-append, arith, ◌⊎◌, ◌≢◌, ◌==◌, if◌then◌else◌}
use Rattle.rdm_lanes.proofs.Common.{AllByRecursion, list_any, map-append, fold-append, cases_Bool, eqb-true, eq-eqb}
use Rattle.rdm_lanes.proofs.Common.{none-some, same_Some, ArrayVec, EachAfter, uids_of, AgentFault, DeviceView}
use Rattle.rdm_lanes.proofs.Common.{LineEvent, Opening, Owner, Entry, Send, Came, Finish, Answer, Close, AskedDiscovery}
use Rattle.rdm_lanes.proofs.Common.{Answered, answered_of, answers, known_devices, devices_run, MayBegin, MayFollow}
use Rattle.rdm_lanes.proofs.Common.{is_result, AllResults, front, answered-append, answers-push}
use Rattle.rdm_lanes.proofs.Common.{sends-push, ask_facts, last_run_same, opening_view, last_view, last_view_run}
use Rattle.rdm_lanes.proofs.Common.{last_number, is_last, with_run, with_found, runs_found, view_of, views_found}
use Rattle.rdm_lanes.proofs.Common.{all_views, GainOneAtMost}
use Rattle.std.proofs.lemmas.List.Folds.{list_any-append}
use Rattle.std.proofs.lemmas.Bool.{false≢true}
use Rattle.std.proofs.lemmas.Map.Keys.{any_passes_from_place}
use Rattle.rdm_agent.specs.Certificate.{Certificate}
use Rattle.rdm_agent.specs.declared.kind.Kind.TheVariants.{Full, Incremental}
use Rattle.rdm_agent.specs.declared.fault.AgentFault.TheVariants.{Aborted}
use Rattle.rdm_log.specs.declared.entry.Owner.TheVariants as owners
use Rattle.rdm_log.specs.log.Runs.{has_begun, is_answered, last_run, number_after, next_run, open_run, served}
use Rattle.rdm_log.specs.log.Runs.{run_exchanges, run_devices, reported_devices, run_kind, is_full_kind, known_at_run}
use Rattle.rdm_log.specs.log.Runs.{devices_of, run_or, last_run_without_fault, if_without_fault}
use Rattle.rdm_log.specs.log.Due.{has_answer, AllAnswered, IsDone, GoesOn, NothingDue}
use Rattle.rdm_log.specs.log.MayAnswer.{MayAnswer, MayAnswerByRun}
use Rattle.rdm_log.proofs.LogLemmas.Indices.{all_at, all_from_indices, index_within}
use Rattle.rdm_log.proofs.LogLemmas.LegalFacts.{along}
use Rattle.rdm_log.proofs.LogLemmas.AskFacts.{AskFacts, unanswered_number}
use Rattle.rdm_log.proofs.LogLemmas.RunLemmas.{not_sent, last_begun, last_run_sent, begun_same, served_stays}
use Rattle.rdm_log.proofs.LogLemmas.RunLemmas.{entries_before_run_stays, run_exchanges_same}
use Rattle.rdm_log.proofs.LogLemmas.RunFacts.{open_is, is_open, run_facts, any_from_index}
use Rattle.rdm_log.proofs.PromiseLemmas.OutcomeLemmas.{exchanges_kept, last_is_answered}
use Rattle.rdm_lanes.proofs.ListLemmas.{all_follow, map_agree}
use Rattle.rdm_lanes.proofs.LineLemmas.{is_off_line, AllOffLine, results_off, sends_off, cames_off}

-- a run that was added is the last
pub is_last_true : (m : Option ℕ) (r : ℕ) → is_last m r ≡ true → m ≡ Some r
is_last_true None r is = absurd (false≢true is)
is_last_true (Some q) r is = ap (λ n. Some n) (eqb-true q r is)

last_of_added : (runs : List ℕ) (r : ℕ) → last_number (with_run runs r) ≡ Some r
last_of_added runs r = by_test (cases_Bool (is_last (last_number runs) r))
  where
    by_test : (is_last (last_number runs) r ≡ true) ⊎ (is_last (last_number runs) r ≡ false)
        → last_number (with_run runs r) ≡ Some r
    by_test (inl is) = rw is (is_last_true (last_number runs) r is)
    by_test (inr not) = rw not (fold-append (λ (before : Option ℕ) (q : ℕ). Some q) None runs (r ∷ []))

last_with : (runs : List ℕ) (r : ℕ) (f : Option AgentFault)
    → last_number (with_found runs f r) ≡ (elim f [ None ↦ Some r | Some fault ↦ last_number runs ])
last_with runs r None = last_of_added runs r
last_with runs r (Some fault) = refl

abbrev pub adds_found : List ℕ → Answered → List ℕ
adds_found runs b = with_found runs b.fault b.run

found_last : (runs : List ℕ) (bs : List Answered)
    → last_number (fold adds_found runs bs) ≡ fold if_without_fault (last_number runs) bs
found_last runs [] = refl
found_last runs (b ∷ bs) =
    found_last (adds_found runs b) bs ∙ ap (λ (m : Option ℕ). fold if_without_fault m bs) (last_with runs b.run b.fault)

last_found : (h : List Entry) → last_number (runs_found h) ≡ last_run_without_fault h
unfolding runs_found
last_found h = found_last [] (answers h)

-- so the last view has the devices that are known
abbrev view_at : List Entry → Option ℕ → DeviceView
view_at h None = opening_view
view_at h (Some r) = view_of h r

last_mapped : (g : Option ℕ → DeviceView) (m : Option ℕ) (runs : List ℕ)
    → fold (λ (before v : DeviceView). v) (g m) (map (λ r. g (Some r)) runs)
    ≡ g (fold (λ (before : Option ℕ) (r : ℕ). Some r) m runs)
last_mapped g m [] = refl
last_mapped g m (r ∷ runs) = last_mapped g (Some r) runs

last_at : (h : List Entry) → last_view (all_views h) ≡ view_at h (last_run_without_fault h)
unfolding last_view
last_at h = last_mapped (view_at h) None (runs_found h) ∙ ap (view_at h) (last_found h)

pub last_known : (o : Opening) (h : List Entry) → o.devices ≡ [] → o.devices_run ≡ 0
    → last_view (all_views h) ≡ record { run = devices_run o h; set = known_devices o h }
last_known o h none unnumbered = last_at h ∙ by_last (last_run_without_fault h)
  where
    by_last : (m : Option ℕ) → view_at h m ≡ record { run = run_or o.devices_run m; set = devices_of o.devices m h }
    by_last None = rw (none, unnumbered) refl
    by_last (Some r) = refl

-- each run that was found is answered
all_pushed : (P : ℕ → Type 0) (runs : List ℕ) (r : ℕ) → AllByRecursion P runs → P r → AllByRecursion P (runs ++ r ∷ [])
all_pushed P [] r all here = (here, tt)
all_pushed P (q ∷ runs) r all here = (all.0, all_pushed P runs r all.1 here)

all_with : (P : ℕ → Type 0) (runs : List ℕ) (r : ℕ) (f : Option AgentFault) → AllByRecursion P runs → P r
    → AllByRecursion P (with_found runs f r)
all_with P runs r (Some fault) all here = all
all_with P runs r None all here = by_test (is_last (last_number runs) r)
  where
    by_test : (b : Bool) → AllByRecursion P (if b then runs else runs ++ r ∷ [])
    by_test true = all
    by_test false = all_pushed P runs r all here

all_found : (P : ℕ → Type 0) (runs : List ℕ) (bs : List Answered) → AllByRecursion P runs
    → AllByRecursion (λ b. P b.run) bs → AllByRecursion P (fold adds_found runs bs)
all_found P runs [] all each = all
all_found P runs (b ∷ bs) all each =
    all_found P (adds_found runs b) bs (all_with P runs b.run b.fault all each.0) each.1

found_answered : (h : List Entry) → AllByRecursion (λ r. is_answered r h ≡ true) (runs_found h)
unfolding runs_found
found_answered h =
    all_found (λ r. is_answered r h ≡ true) [] (answers h) tt
    (all_from_indices (λ b. is_answered b.run h ≡ true) (answers h)
    (λ i b at. any_passes_from_place (λ (x : Answered). x.run == b.run) (answers h) i
    b at (eq-eqb b.run b.run refl)))

-- so its set stays
sets_stay : (o : Opening) (h : List Entry) (e : Entry) → EachAfter (MayFollow o) h → MayFollow o h e
    → map (view_of (h ++ e ∷ [])) (runs_found h) ≡ map (view_of h) (runs_found h)
sets_stay o h e each may =
    map_agree (view_of (h ++ e ∷ [])) (view_of h) (runs_found h)
    (λ i r at. same r (all_at (λ (q : ℕ). is_answered q h ≡ true) (runs_found h) (found_answered h) i r at))
  where
    same : (r : ℕ) → is_answered r h ≡ true → view_of (h ++ e ∷ []) r ≡ view_of h r
    same r is = rw (exchanges_kept o h e each may r is) refl

views_same : (o : Opening) (h : List Entry) (e : Entry) → EachAfter (MayFollow o) h → MayFollow o h e
    → runs_found (h ++ e ∷ []) ≡ runs_found h → views_found (h ++ e ∷ []) ≡ views_found h
views_same o h e each may same = ap (map (view_of (h ++ e ∷ []))) same ∙ sets_stay o h e each may

runs_same : (h : List Entry) (e : Entry) → answered_of e ≡ None → runs_found (h ++ e ∷ []) ≡ runs_found h
unfolding runs_found
runs_same h e none = ap (fold adds_found []) (rw none at (answers-push h e))

runs_more : (h : List Entry) (n r : ℕ) (f : Option AgentFault)
    → runs_found (h ++ Answer n r f ∷ []) ≡ with_found (runs_found h) f r
unfolding runs_found
runs_more h n r f =
    ap (fold adds_found []) (answers-push h (Answer n r f))
    ∙ fold-append adds_found [] (answers h) (record { number = n; run = r; fault = f } ∷ [])

-- without Answers and frames all stays
pub quiet_views : (h block : List Entry) → AllOffLine block → AllByRecursion (λ e. answered_of e ≡ None) block
    → views_found (h ++ block) ≡ views_found h
quiet_views h [] all none = ap views_found (append-nil h)
quiet_views h (e ∷ block) all none =
    ap views_found (sym (append_assoc h (e ∷ []) block)) ∙ quiet_views (h ++ e ∷ []) block all.1 none.1
    ∙ (ap (map (view_of (h ++ e ∷ []))) (runs_same h e none.0)
    ∙ map_agree (view_of (h ++ e ∷ [])) (view_of h) (runs_found h) (λ i r at. same r))
  where
    same : (r : ℕ) → view_of (h ++ e ∷ []) r ≡ view_of h r
    same r = rw (run_exchanges_same h (h ++ e ∷ []) r (sends_off h (e ∷ []) (all.0, tt))
        (cames_off h (e ∷ []) (all.0, tt))) refl

-- a run that has begun is the last, or has answered all that it serves
abbrev Settled : List Entry → Type 0
Settled h = (r : ℕ) → has_begun r h ≡ true → (last_run h ≡ Some r) ⊎ AllAnswered r h

answered_on : (r : ℕ) (h block : List Entry) → has_begun r h ≡ true → AllAnswered r h → AllAnswered r (h ++ block)
answered_on r h block begun all =
    rw (served_stays r h block begun)
    (all_follow (λ a. has_answer a.number h ≡ true) (λ a. has_answer a.number (h ++ block) ≡ true) more (served r h)
    all)
  where
    more : (a : AskedDiscovery) → has_answer a.number h ≡ true → has_answer a.number (h ++ block) ≡ true
    more a has =
        ap (list_any (λ (b : Answered). b.number == a.number)) (answered-append h block)
        ∙ (list_any-append (λ (b : Answered). b.number == a.number) (answers h) (answers block) ∙ rw has refl)

settled_kept : (h : List Entry) (e : Entry) → last_run (h ++ e ∷ []) ≡ last_run h
    → ((r : ℕ) → has_begun r (h ++ e ∷ []) ≡ has_begun r h) → Settled h → Settled (h ++ e ∷ [])
settled_kept h e last same before r begun = by_before (before r begun_h)
  where
    begun_h : has_begun r h ≡ true
    begun_h = sym (same r) ∙ begun

    by_before : (last_run h ≡ Some r) ⊎ AllAnswered r h → (last_run (h ++ e ∷ []) ≡ Some r)
        ⊎ AllAnswered r (h ++ e ∷ [])
    by_before (inl is) = inl (last ∙ is)
    by_before (inr all) = inr (answered_on r h (e ∷ []) begun_h all)

no_open : (h : List Entry) (r : ℕ) → last_run h ≡ Some r → open_run h ≡ None → is_answered r h ≡ true
no_open h r last none = by_test (cases_Bool (is_answered r h))
  where
    by_test : (is_answered r h ≡ true) ⊎ (is_answered r h ≡ false) → is_answered r h ≡ true
    by_test (inl is) = is
    by_test (inr not) = absurd (none-some r (sym none ∙ is_open h r (record { last = last; left = not })))

all_of_named : (o : Opening) (h : List Entry) (r : ℕ) → NothingDue o h → is_answered r h ≡ true → AllAnswered r h
all_of_named o h r due is = by_index (any_from_index (λ (b : Answered). b.run == r) (answers h) is)
  where
    by_index : ((i : ℕ) × (b : Answered) × (slice_get (answers h) i ≡ Some b) × ((b.run == r) ≡ true)) → AllAnswered r h
    by_index at =
        subst (λ (q : ℕ). AllAnswered q h) (eqb-true at.1.run r at.3)
        (all_at (λ (b : Answered). AllAnswered b.run h) (answers h) due.runs_answered at.0 at.1 at.2)

settled_run : (o : Opening) (h : List Entry) (x : ℕ) (frame : ArrayVec ℕ) → NothingDue o h → MayBegin o h x
    ⊎ (open_run h ≡ Some x) → Settled h → Settled (h ++ Send (owners.Run x) frame ∷ [])
settled_run o h x frame due turn before r begun = by_begun (cases_Bool (has_begun r h)) (cases_Bool (r == x))
  where
    e : Entry
    e = Send (owners.Run x) frame

    last : last_run (h ++ e ∷ []) ≡ Some x
    last = last_run_sent h (owners.Run x) frame

    by_turn : has_begun r h ≡ true → last_run h ≡ Some r → MayBegin o h x ⊎ (open_run h ≡ Some x)
        → (last_run (h ++ e ∷ []) ≡ Some r) ⊎ AllAnswered r (h ++ e ∷ [])
    by_turn here is (inl begins) =
        inr (answered_on r h (e ∷ []) here (all_of_named o h r due (no_open h r is begins.no_run)))
    by_turn here is (inr open_) = inl (last ∙ (sym (open_is h x open_).last ∙ is))

    by_before : has_begun r h ≡ true → (last_run h ≡ Some r) ⊎ AllAnswered r h → (last_run (h ++ e ∷ []) ≡ Some r)
        ⊎ AllAnswered r (h ++ e ∷ [])
    by_before here (inl is) = by_turn here is turn
    by_before here (inr all) = inr (answered_on r h (e ∷ []) here all)

    by_begun : (has_begun r h ≡ true) ⊎ (has_begun r h ≡ false) → ((r == x) ≡ true) ⊎ ((r == x) ≡ false)
        → (last_run (h ++ e ∷ []) ≡ Some r) ⊎ AllAnswered r (h ++ e ∷ [])
    by_begun (inl here) own = by_before here (before r here)
    by_begun (inr not) (inl own) = inl (last ∙ ap (λ (n : ℕ). Some n) (sym (eqb-true r x own)))
    by_begun (inr not) (inr other) = absurd (false≢true (sym (begun_same r h e other ∙ not) ∙ begun))

settled_step : (o : Opening) (h : List Entry) (e : Entry) → EachAfter (MayFollow o) h → Settled h → MayFollow o h e
    → Settled (h ++ e ∷ [])
settled_step o h (Send (owners.Run x) frame) each before may = settled_run o h x frame may.0 may.1.turn before
settled_step o h (Send (owners.Request n) frame) each before may =
    settled_kept h (Send (owners.Request n) frame) (last_run_sent h (owners.Request n) frame)
    (λ r. begun_same r h (Send (owners.Request n) frame) refl) before
settled_step o h e each before may =
    settled_kept h e (last_run_same h (h ++ e ∷ []) (sends-push h e)) (λ r. begun_same r h e (not_sent r e refl))
    before

settled : (o : Opening) (h : List Entry) → EachAfter (MayFollow o) h → Settled h
unfolding has_begun
settled o h each = along o Settled (λ r begun. absurd (false≢true begun)) (settled_step o) h each

-- the numbers of Answers
number_below : (o : Opening) (h : List Entry) (n : ℕ) → AskFacts o h → has_answer n h ≡ true
    → n < o.next_ask + length (answers h)
number_below o h n facts has = by_index (any_from_index (λ (b : Answered). b.number == n) (answers h) has)
  where
    by_index : ((i : ℕ) × (b : Answered) × (slice_get (answers h) i ≡ Some b) × ((b.number == n) ≡ true))
        → n < o.next_ask + length (answers h)
    by_index at =
        omega (
          arith,
          facts.answer_numbers at.0 at.1 at.2,
          index_within (answers h) at.0 at.1 at.2,
          eqb-true at.1.number n at.3,
        )

oldest_number : (o : Opening) (h : List Entry) (n r : ℕ) (f : Option AgentFault) → AskFacts o h → MayAnswer o h n r f
    → n ≡ o.next_ask + length (answers h)
oldest_number o h n r f facts may = omega (arith, may.number, unanswered_number o h facts 0 may.asked may.oldest)

-- an Answer without fault is of a run, which serves its discovery
by_run : (o : Opening) (h : List Entry) (n r : ℕ) → MayAnswer o h n r None → MayAnswerByRun o h n r None
by_run o h n r may = may.by_run (λ is. none-some Aborted (may.unserved is).aborted)

has_served : (n r : ℕ) (h : List Entry) → list_any (λ (a : AskedDiscovery). a.number == n) (served r h) ≡ true
    → has_begun r h ≡ true
has_served n r h is = by_test (cases_Bool (has_begun r h))
  where
    by_test : (has_begun r h ≡ true) ⊎ (has_begun r h ≡ false) → has_begun r h ≡ true
    by_test (inl begun) = begun
    by_test (inr not) = absurd (false≢true (rw not at is))

served_answered : (n r : ℕ) (h k : List Entry) → served r k ≡ served r h
    → list_any (λ (a : AskedDiscovery). a.number == n) (served r k) ≡ true → AllAnswered r h → has_answer n h ≡ true
served_answered n r h k same is all =
    by_index (any_from_index (λ (a : AskedDiscovery). a.number == n) (served r h)
    (sym (ap (list_any (λ (a : AskedDiscovery). a.number == n)) same) ∙ is))
  where
    by_index : ((i : ℕ) × (a : AskedDiscovery) × (slice_get (served r h) i ≡ Some a) × ((a.number == n) ≡ true))
        → has_answer n h ≡ true
    by_index at =
        subst (λ (m : ℕ). has_answer m h ≡ true) (eqb-true at.1.number n at.3)
        (all_at (λ (a : AskedDiscovery). has_answer a.number h ≡ true) (served r h) all at.0 at.1 at.2)

-- it is the last run's
of_last : (o : Opening) (h : List Entry) (n r : ℕ) → EachAfter (MayFollow o) h → MayAnswer o h n r None
    → last_run h ≡ Some r
of_last o h n r each may = by_settled (settled o h each r (has_served n r h (by_run o h n r may).serves))
  where
    facts : AskFacts o h
    facts = ask_facts o h each

    by_settled : (last_run h ≡ Some r) ⊎ AllAnswered r h → last_run h ≡ Some r
    by_settled (inl is) = is
    by_settled (inr all) =
        absurd (omega (
          arith,
          number_below o h n facts (served_answered n r h h refl (by_run o h n r may).serves all),
          oldest_number o h n r None facts may,
        ))

-- one view more, of a later run, which is the last run
record AddedLast (before : List DeviceView) (h : List Entry) : Type 0 where
  run : ℕ
  last : last_run h ≡ Some run
  found : last_number (runs_found h) ≡ Some run
  view : DeviceView
  more : views_found h ≡ before ++ view ∷ []
  later : last_view_run (opening_view ∷ before) < view.run

abbrev Grown : List DeviceView → List Entry → Type 0
Grown before h = (views_found h ≡ before) ⊎ AddedLast before h

grown_kept : (o : Opening) (before : List DeviceView) (h : List Entry) (e : Entry) → EachAfter (MayFollow o) h
    → MayFollow o h e → runs_found (h ++ e ∷ []) ≡ runs_found h → last_run (h ++ e ∷ []) ≡ last_run h → Grown before h
    → Grown before (h ++ e ∷ [])
grown_kept o before h e each may same last (inl is) = inl (views_same o h e each may same ∙ is)
grown_kept o before h e each may same last (inr is) = inr (record {
  run = is.run;
  last = last ∙ is.last;
  found = ap last_number same ∙ is.found;
  view = is.view;
  more = views_same o h e each may same ∙ is.more;
  later = is.later;
})

-- the run that was found last is before a last run that is another
found_before : (o : Opening) (h : List Entry) (n r : ℕ) → EachAfter (MayFollow o) h → MayAnswer o h n r None
    → is_last (last_number (runs_found h)) r ≡ false → last_view_run (all_views h) < r
found_before o h n r each may apart = by_last (last_run_without_fault h) refl
  where
    named : ℕ → Type 0
    named q = q < r

    not_zero : r ≢ 0
    not_zero is = none-some Aborted (may.unserved is).aborted

    facts : next_run o h ≡ r + 1
    facts = ap (number_after o.next_run) (of_last o h n r each may)

    below : (q : ℕ) → last_run_without_fault h ≡ Some q → q ≢ r → q < r
    below zero is other = omega (arith, not_zero)
    below (suc q) is other =
        by_index (any_from_index (λ (b : Answered). b.run == suc q) (answers h) (last_is_answered h (suc q) is))
      where
        begun : (b : Answered) → b.run ≡ suc q → has_begun b.run h ≡ true → suc q < r
        begun b same has = omega (arith, (run_facts o h each).begun_below b.run has, same, facts, other)

        by_index : ((i : ℕ) × (b : Answered) × (slice_get (answers h) i ≡ Some b) × ((b.run == suc q) ≡ true))
            → suc q < r
        by_index at =
            begun at.1 (eqb-true at.1.run (suc q) at.3)
            ((run_facts o h each).named at.0 at.1 at.2
            (λ none. absurd (omega (arith, none, eqb-true at.1.run (suc q) at.3))))

    by_last : (m : Option ℕ) → last_run_without_fault h ≡ m → last_view_run (all_views h) < r
    by_last None is =
        subst (λ (v : DeviceView). v.run < r) (sym (last_at h ∙ ap (view_at h) is)) (omega (arith, not_zero))
    by_last (Some q) is =
        subst (λ (v : DeviceView). v.run < r) (sym (last_at h ∙ ap (view_at h) is))
        (below q is (λ same. absurd (false≢true
        (sym apart ∙ (ap (λ (m : Option ℕ). is_last m r) (last_found h ∙ is) ∙ eq-eqb q r same)))))

grown_answer : (o : Opening) (before : List DeviceView) (h : List Entry) (n r : ℕ) → EachAfter (MayFollow o) h
    → MayAnswer o h n r None → Grown before h → Grown before (h ++ Answer n r None ∷ [])
grown_answer o before h n r each may grown = by_test (cases_Bool (is_last (last_number (runs_found h)) r)) grown
  where
    e : Entry
    e = Answer n r None

    last : last_run (h ++ e ∷ []) ≡ last_run h
    last = last_run_same h (h ++ e ∷ []) (sends-push h e)

    by_test : (is_last (last_number (runs_found h)) r ≡ true) ⊎ (is_last (last_number (runs_found h)) r ≡ false)
        → Grown before h → Grown before (h ++ e ∷ [])
    by_test (inl same) before_ = grown_kept o before h e each may (runs_more h n r None ∙ rw same refl) last before_
    by_test (inr apart) (inl is) = inr (record {
      run = r;
      last = last ∙ of_last o h n r each may;
      found = ap last_number (runs_more h n r None) ∙ last_of_added (runs_found h) r;
      view = view_of (h ++ e ∷ []) r;
      more = ap (map (view_of (h ++ e ∷ []))) (runs_more h n r None ∙ rw apart refl)
          ∙ (map-append (view_of (h ++ e ∷ [])) (runs_found h) (r ∷ [])
          ∙ ap (λ (vs : List DeviceView). vs ++ view_of (h ++ e ∷ []) r ∷ []) (sets_stay o h e each may ∙ is));
      later = subst (λ (vs : List DeviceView). last_view_run (opening_view ∷ vs) < r) is
          (found_before o h n r each may apart);
    })
    by_test (inr apart) (inr is) =
        absurd (false≢true
        (sym apart ∙ (ap (λ (m : Option ℕ). is_last m r) is.found
        ∙ eq-eqb is.run r (same_Some is.run r (sym is.last ∙ of_last o h n r each may)))))

grown_result : (o : Opening) (before : List DeviceView) (h : List Entry) (e : Entry) → EachAfter (MayFollow o) h
    → MayFollow o h e → is_result e ≡ true → Grown before h → Grown before (h ++ e ∷ [])
grown_result o before h (Answer n r None) each may is grown = grown_answer o before h n r each may grown
grown_result o before h (Answer n r (Some fault)) each may is grown =
    grown_kept o before h (Answer n r (Some fault)) each may (runs_more h n r (Some fault))
    (last_run_same h (h ++ Answer n r (Some fault) ∷ []) (sends-push h (Answer n r (Some fault)))) grown
grown_result o before h (Finish n status len) each may is grown =
    grown_kept o before h (Finish n status len) each may (runs_same h (Finish n status len) refl)
    (last_run_same h (h ++ Finish n status len ∷ []) (sends-push h (Finish n status len))) grown
grown_result o before h _ each may is grown = absurd (false≢true is)

grown_results : (o : Opening) (before : List DeviceView) (h block : List Entry) → EachAfter (MayFollow o) (h ++ block)
    → AllResults block → Grown before h → Grown before (h ++ block)
grown_results o before h [] each all grown = subst (Grown before) (sym (append-nil h)) grown
grown_results o before h (e ∷ block) each all grown = subst (Grown before) (append_assoc h (e ∷ []) block)
    (grown_results o before (h ++ e ∷ []) block
    (subst (EachAfter (MayFollow o)) (sym (append_assoc h (e ∷ []) block)) each) all.1
    (grown_result o before h e (front o h (e ∷ block) each) (each h block e refl) all.0 grown))

-- an exchange adds at most one view, of a later run
pub exchange_views : (o : Opening) (h : List Entry) (owner : Owner) (frame : ArrayVec ℕ) (event : LineEvent)
    (results : List Entry) → EachAfter (MayFollow o) (((h ++ Send owner frame ∷ []) ++ Came event ∷ []) ++ results)
    → AllResults results
    → GainOneAtMost (views_found h) (views_found (((h ++ Send owner frame ∷ []) ++ Came event ∷ []) ++ results))
exchange_views o h owner frame event results each all =
    by_grown (grown_results o (views_found h) both results each all
    (inl (views_same o mid came mid_each (each_both mid [] came refl) (runs_same mid came refl)
    ∙ views_same o h sent h_each (each_mid h [] sent refl) (runs_same h sent refl))))
  where
    sent : Entry
    sent = Send owner frame

    came : Entry
    came = Came event

    mid : List Entry
    mid = h ++ sent ∷ []

    both : List Entry
    both = mid ++ came ∷ []

    each_both : EachAfter (MayFollow o) both
    each_both = front o both results each

    each_mid : EachAfter (MayFollow o) mid
    each_mid = front o mid (came ∷ []) each_both

    mid_each : EachAfter (MayFollow o) mid
    mid_each = each_mid

    h_each : EachAfter (MayFollow o) h
    h_each = front o h (sent ∷ []) each_mid

    by_grown : Grown (views_found h) (both ++ results) → GainOneAtMost (views_found h) (views_found (both ++ results))
    by_grown (inl same) = inl same
    by_grown (inr more) = inr (more.view, more.more, more.later)

-- Where nothing is due, and no frame is sent, no run is answered without fault.
not_found : (o : Opening) (h block : List Entry) (n r : ℕ) → EachAfter (MayFollow o) h → NothingDue o h
    → AllOffLine block → EachAfter (MayFollow o) (h ++ block) → MayAnswer o (h ++ block) n r None → ⊥
not_found o h block n r each due off each_on may = by_answered (cases_Bool (is_answered r h))
  where
    run : MayAnswerByRun o (h ++ block) n r None
    run = by_run o (h ++ block) n r may

    last : last_run h ≡ Some r
    last = sym (last_run_same h (h ++ block) (sends_off h block off)) ∙ of_last o (h ++ block) n r each_on may

    begun : has_begun r h ≡ true
    begun = last_begun r h last

    fewer : length (answers h) + length (answers block) ≡ length (answers (h ++ block))
    fewer = sym (ap length (answered-append h block) ∙ length-append (answers h) (answers block))

    done : IsDone o h r
    done =
        let kinds : run_kind r (h ++ block)
        ≡ run_kind r h =
        ap (λ (s : List AskedDiscovery). if list_any (λ (a : AskedDiscovery). is_full_kind a.kind) s then Full
        else Incremental) (served_stays r h block begun) in
        let knowns : known_at_run o r (h ++ block)
        ≡ known_at_run o r h =
        ap (λ (l : List Entry). uids_of (known_devices o l)) (entries_before_run_stays r h block begun) in
        let shown : run_exchanges r (h ++ block)
        ≡ run_exchanges r h = run_exchanges_same h (h ++ block) r (sends_off h block off) (cames_off h block off) in
        subst (λ x. Certificate (run_kind r h) (known_at_run o r h) x (reported_devices x)) shown
        (subst (λ u. Certificate (run_kind r h) u (run_exchanges r (h ++ block)) (run_devices r (h ++ block))) knowns
        (subst (λ k. Certificate k (known_at_run o r (h ++ block)) (run_exchanges r (h ++ block))
        (run_devices r (h ++ block))) kinds run.shows))

    goes_on : open_run h ≡ Some r → GoesOn o h r
    goes_on is = rw is at due.run_goes_on

    by_answered : (is_answered r h ≡ true) ⊎ (is_answered r h ≡ false) → ⊥
    by_answered (inl is) =
        omega (
          arith,
          fewer,
          oldest_number o (h ++ block) n r None (ask_facts o (h ++ block) each_on) may,
          number_below o h n (ask_facts o h each)
              (served_answered n r h (h ++ block) (served_stays r h block begun) run.serves
              (all_of_named o h r due is)),
        )
    by_answered (inr not) = (goes_on (is_open h r (record { last = last; left = not }))).not_done done

results_stay : (o : Opening) (h block results : List Entry) → EachAfter (MayFollow o) h → NothingDue o h
    → AllOffLine block → EachAfter (MayFollow o) ((h ++ block) ++ results) → AllResults results
    → views_found ((h ++ block) ++ results) ≡ views_found (h ++ block)
results_stay o h block [] each due off each_on all = ap views_found (append-nil (h ++ block))
results_stay o h block (e ∷ results) each due off each_on all =
    ap views_found
    (sym (append_assoc (h ++ block) (e ∷ []) results)
    ∙ ap (λ (l : List Entry). l ++ results) (append_assoc h block (e ∷ [])))
    ∙ (results_stay o h (block ++ e ∷ []) results each due off_more
    (subst (EachAfter (MayFollow o))
    (sym (append_assoc (h ++ block) (e ∷ []) results)
    ∙ ap (λ (l : List Entry). l ++ results) (append_assoc h block (e ∷ []))) each_on) all.1
    ∙ (ap views_found (sym (append_assoc h block (e ∷ [])))
    ∙ views_same o (h ++ block) e each_here may (same e all.0 may)))
  where
    each_here : EachAfter (MayFollow o) (h ++ block)
    each_here = front o (h ++ block) (e ∷ results) each_on

    may : MayFollow o (h ++ block) e
    may = each_on (h ++ block) results e refl

    off_all : (block : List Entry) (e : Entry) → AllOffLine block → is_off_line e ≡ true → AllOffLine (block ++ e ∷ [])
    off_all [] e all here = (here, tt)
    off_all (f ∷ block) e all here = (all.0, off_all block e all.1 here)

    off_more : AllOffLine (block ++ e ∷ [])
    off_more = off_all block e off ((results_off (e ∷ []) (all.0, tt)).0)

    same : (e : Entry) → is_result e ≡ true → MayFollow o (h ++ block) e
        → runs_found ((h ++ block) ++ e ∷ []) ≡ runs_found (h ++ block)
    same (Answer n r None) is may = absurd (not_found o h block n r each due off each_here may)
    same (Answer n r (Some fault)) is may = runs_more (h ++ block) n r (Some fault)
    same (Finish n status len) is may = runs_same (h ++ block) (Finish n status len) refl
    same _ is may = absurd (false≢true is)

-- so a close finds nothing
pub close_views : (o : Opening) (h results : List Entry) → EachAfter (MayFollow o) (h ++ Close ∷ results)
    → AllResults results → views_found (h ++ Close ∷ results) ≡ views_found h
close_views o h results each all =
    ap views_found (sym (append_assoc h (Close ∷ []) results))
    ∙ (results_stay o h (Close ∷ []) results each_h (each h results Close refl).0 (refl, tt)
    (subst (EachAfter (MayFollow o)) (sym (append_assoc h (Close ∷ []) results)) each) all
    ∙ quiet_views h (Close ∷ []) (refl, tt) (refl, tt))
  where
    each_h : EachAfter (MayFollow o) h
    each_h = front o h (Close ∷ results) each
