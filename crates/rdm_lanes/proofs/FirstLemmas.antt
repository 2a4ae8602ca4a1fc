-- A run's view is published before its outcomes are moved.
use Rattle.rdm_lanes.proofs.Common.{◌≡◌, ℕ, zero, suc, ◌≤◌, Bool, true, false, List, [], ◌∷◌, ◌++◌, length, map, fold}
use Rattle.rdm_lanes.proofs.Common.{Option, Some, None, refl, sym, ap, ◌∙◌, subst, slice_get, inl, inr, append_assoc}
use Rattle.rdm_lanes.proofs.Common.{length-append, arith, ◌⊎◌, if◌then◌else◌, cases_Bool, none-some, slice_get_within}
use Rattle.rdm_lanes.proofs.Common.{known_items, AgentFault, DeviceView, Entry, Answer, Answered, answers, LogState}
use Rattle.rdm_lanes.proofs.Common.{OutcomeValue, Discovered, never_begun, DiscoveryValue, slice_get-append_left}
use Rattle.rdm_lanes.proofs.Common.{answered-append, answers-push, Ghosts, RingClient, ClientEnd, Lane, RingOutcome}
use Rattle.rdm_lanes.proofs.Common.{values_in, uncollected_values, AllFit, end_got, AllAgree, AreNewWith, last_view_run}
use Rattle.rdm_lanes.proofs.Common.{last_number, is_last, with_run, with_found, runs_found, view_of, all_views}
use Rattle.rdm_lanes.proofs.Common.{NoneLater, AreShownFirst, NoExchange, Publishing, Publishes, Worker}
use Rattle.rtrb.specs.Ring.{sent as pushed}
use Rattle.rdm_lanes.specs.ViewsRead.{AllShownFirst}
use Rattle.rdm_lanes.specs.body.Showing.{AllPublished}
use Rattle.rdm_lanes.proofs.ShowingLemmas.{publishes_same, all_published_same}
use Rattle.rdm_lanes.proofs.EndLemmas.{get_map, within_get}
use Rattle.rdm_lanes.proofs.FoundLemmas.{is_last_true, adds_found}
use Rattle.rdm_lanes.proofs.ToldLemmas.{IsToldBy, IsAnswered, IsRefusedByClose, told_in, discovery_of}

-- the run of each Answer without fault is among those that were found
abbrev Has : List ℕ → ℕ → Type 0
Has runs r = (i : ℕ) × (slice_get runs i ≡ Some r)

last_index : {X : Type 0} (xs : List X) (x : X) → slice_get (xs ++ x ∷ []) (length xs) ≡ Some x
last_index [] x = refl
last_index (y ∷ xs) x = last_index xs x

last_has : (m : Option ℕ) (runs : List ℕ) (r : ℕ) → fold (λ (before : Option ℕ) (q : ℕ). Some q) m runs ≡ Some r
    → Has runs r ⊎ (m ≡ Some r)
last_has m [] r is = inr is
last_has m (q ∷ runs) r is = by_rest (last_has (Some q) runs r is)
  where
    by_rest : Has runs r ⊎ (Some q ≡ Some r) → Has (q ∷ runs) r ⊎ (m ≡ Some r)
    by_rest (inl later) = inl (suc later.0, later.1)
    by_rest (inr here) = inl (0, here)

has_own : (runs : List ℕ) (r : ℕ) → Has (with_run runs r) r
has_own runs r = by_test (cases_Bool (is_last (last_number runs) r))
  where
    in_runs : Has runs r ⊎ (None ≡ Some r) → Has runs r
    in_runs (inl has) = has
    in_runs (inr none) = absurd (none-some r none)

    by_test : (is_last (last_number runs) r ≡ true) ⊎ (is_last (last_number runs) r ≡ false) → Has (with_run runs r) r
    by_test (inl is) = rw is (in_runs (last_has None runs r (is_last_true (last_number runs) r is)))
    by_test (inr not) = rw not (length runs, last_index runs r)

has_with : (runs : List ℕ) (q r : ℕ) (f : Option AgentFault) → Has runs q → Has (with_found runs f r) q
has_with runs q r (Some fault) has = has
has_with runs q r None has = by_test (is_last (last_number runs) r)
  where
    by_test : (b : Bool) → Has (if b then runs else runs ++ r ∷ []) q
    by_test true = has
    by_test false = (has.0, slice_get-append_left runs (r ∷ []) has.0 q has.1)

has_still : (runs : List ℕ) (bs : List Answered) (q : ℕ) → Has runs q → Has (fold adds_found runs bs) q
has_still runs [] q has = has
has_still runs (b ∷ bs) q has = has_still (adds_found runs b) bs q (has_with runs q b.run b.fault has)

found_at : (runs : List ℕ) (bs : List Answered) (i : ℕ) (b : Answered) → slice_get bs i ≡ Some b → b.fault ≡ None
    → Has (fold adds_found runs bs) b.run
found_at runs [] i b at none = absurd (no_answer at)
  where
    no_answer : None ≡ Some b → ⊥
    no_answer e = cc
found_at runs (x ∷ bs) zero b at none =
    let same : x ≡ b = cc in
    has_still (adds_found runs x) bs b.run
    (subst (λ (y : Answered). Has (adds_found runs y) b.run) (sym same)
    (subst (λ (f : Option AgentFault). Has (with_found runs f b.run) b.run) (sym none) (has_own runs b.run)))
found_at runs (x ∷ bs) (suc i) b at none = found_at (adds_found runs x) bs i b at none

found_has : (h : List Entry) (i : ℕ) (b : Answered) → slice_get (answers h) i ≡ Some b → b.fault ≡ None
    → Has (runs_found h) b.run
unfolding runs_found
found_has h i b at none = found_at [] (answers h) i b at none

-- so it isn't later than that of the last view
answered_index : (front back : List Entry) (n r : ℕ) (f : Option AgentFault)
    → slice_get (answers (front ++ Answer n r f ∷ back)) (length (answers front)) ≡ Some (record {
      number = n;
      run = r;
      fault = f;
    })
answered_index front back n r f =
    let b : Answered = record { number = n; run = r; fault = f } in
    let parts : answers (front ++ Answer n r f ∷ back) ≡ (answers front ++ b ∷ []) ++ answers back =
    ap answers (sym (append_assoc front (Answer n r f ∷ []) back))
    ∙ (answered-append (front ++ Answer n r f ∷ []) back
    ∙ ap (λ (bs : List Answered). bs ++ answers back) (answers-push front (Answer n r f))) in
    ap (λ (bs : List Answered). slice_get bs (length (answers front))) parts
    ∙ slice_get-append_left (answers front ++ b ∷ []) (answers back) (length (answers front)) b
    (last_index (answers front) b)

run_shown : (h front back : List Entry) (n r : ℕ) → NoneLater (all_views h) → h ≡ front ++ Answer n r None ∷ back
    → r ≤ last_view_run (all_views h)
run_shown h front back n r none whole =
    let b : Answered = record { number = n; run = r; fault = None } in
    let at = ap (λ (l : List Entry). slice_get (answers l) (length (answers front))) whole
    ∙ answered_index front back n r None in
    let has = found_has h (length (answers front)) b at refl in
    none (suc has.0) (view_of h r) (get_map (view_of h) (runs_found h) has.0 r has.1)

-- once all views of the log are published, each outcome that was moved has its view
pub first_shown : (k : LogState) (lanes : List Lane) (shown : List DeviceView) → NoneLater (all_views k.entries)
    → AllFit k lanes → shown ≡ all_views k.entries → AreShownFirst shown lanes
first_shown k lanes shown none fit all = record { each = each }
  where
    each : (i j : ℕ) (lane : Lane) (number : Option ℕ) (done : Discovered) → slice_get lanes i ≡ Some lane
        → slice_get (values_in (pushed lane.replies)) j ≡ Some (DiscoveryValue number done) → done.fault ≡ None
        → done.run ≤ last_view_run shown
    each i j lane number done here at fault =
        by_kind (discovery_of k.entries told.front told.back told.entry number done told.is)
      where
        told : IsToldBy k.opening k.entries i (DiscoveryValue number done)
        told = told_in k.opening k.entries i (values_in (pushed lane.replies)) (DiscoveryValue number done) j
            (fit.each i lane here).moved_are at

        aborted : None ≡ never_begun.fault → ⊥
        aborted e = cc

        by_kind : IsAnswered k.entries told.front told.back told.entry number done ⊎ IsRefusedByClose told.entry done
            → done.run ≤ last_view_run shown
        by_kind (inl a) =
            let whole = told.whole
            ∙ ap (λ (x : Entry). told.front ++ x ∷ told.back)
            (a.is ∙ ap (λ (f : Option AgentFault). Answer a.n a.run f) fault) in
            let few = run_shown k.entries told.front told.back a.n a.run none whole in
            omega (arith, few, a.run_is, ap last_view_run all)
        by_kind (inr a) = absurd (aborted (sym fault ∙ ap (λ (d : Discovered). d.fault) a.never))

-- so it stays without an exchange, while all views are published
pub record StillShown (w : Worker) (p : Publishing) : Type 0 where
  pub publishes : Publishes w.session p
  pub published : AllPublished w.session p
  pub shown_first : AreShownFirst p.shown w.lanes.items

pub still_shown : (a b : Worker) (p : Publishing) → NoExchange a.session b.session → AllPublished a.session p
    → Publishes a.session p → StillShown b p
still_shown a b p line all is =
    let publishes = publishes_same a.session b.session p line is in
    let published = all_published_same a.session b.session p line all in
    record {
      publishes = publishes;
      published = published;
      shown_first = first_shown b.session b.lanes.items p.shown publishes.showing.none_later b.fits published.shown;
    }

-- so is it with what the clients got
cancel_back : {X : Type 0} (xs ys zs : List X) → xs ++ zs ≡ ys ++ zs → xs ≡ ys
cancel_back [] [] zs e = refl
cancel_back [] (y ∷ ys) zs e = absurd (omega (arith, ap length e, length-append ys zs))
cancel_back (x ∷ xs) [] zs e = absurd (omega (arith, ap length e, length-append xs zs))
cancel_back (x ∷ xs) (y ∷ ys) zs e =
    let heads : x ≡ y = cc in
    let rest = cancel_back xs ys zs (cc e) in
    cc (heads, rest)

same_some : {X : Type 0} (xs ys : List X) → map (λ (x : X). Some x) xs ≡ map (λ (x : X). Some x) ys → xs ≡ ys
same_some [] [] e = refl
same_some [] (y ∷ ys) e = absurd (omega (arith, ap length e))
same_some (x ∷ xs) [] e = absurd (omega (arith, ap length e))
same_some (x ∷ xs) (y ∷ ys) e =
    let heads : x ≡ y = cc in
    let rest = same_some xs ys (cc e) in
    cc (heads, rest)

pub ends_shown_first : {J : Type 0} {h : Ghosts J} {C A : Type 0} (k : LogState) (lanes : List Lane)
    (ends : List (ClientEnd J C A h)) (shown : List DeviceView) → AllFit k lanes → AllAgree k ends
    → length ends ≡ length lanes → AreShownFirst shown lanes → AllShownFirst shown ends
ends_shown_first k lanes ends shown fit agree long first = record {
  each = λ i e number done here got fault.
      let lane = within_get lanes i (omega (arith, slice_get_within ends i e here, long)) in
      let all = end_got e ++ values_in (known_items e.replies) in
      let same = same_some (values_in (pushed lane.0.replies)) all
      (cancel_back (map (λ (v : OutcomeValue). Some v) (values_in (pushed lane.0.replies)))
      (map (λ (v : OutcomeValue). Some v) all) (uncollected_values k.opening i k.entries)
      ((fit.each i lane.0 lane.1).moved_are ∙ sym (agree.each i e here).got_are)) in
      let at = slice_get-append_left (end_got e) (values_in (known_items e.replies)) got.0 (DiscoveryValue number done)
      got.1 in
      first.each i got.0 lane.0 number done lane.1 (ap (λ (vs : List OutcomeValue). slice_get vs got.0) same ∙ at)
      fault;
}

-- at first nothing was moved
nothing_moved : (items : List RingOutcome) (j : ℕ) (v : OutcomeValue) → items ≡ []
    → slice_get (values_in items) j ≡ Some v → ⊥
unfolding values_in
nothing_moved [] j v none at = cc
nothing_moved (item ∷ items) j v none at = cc

pub new_shown_first : {J : Type 0} {h : Ghosts J} {C A : Type 0} (shown : List DeviceView) (ring : ℕ) (ps : List ℕ)
    (clients : List (RingClient J C A h)) (lanes : List Lane) → AreNewWith ring ps clients lanes
    → AreShownFirst shown lanes
new_shown_first shown ring ps clients lanes all = record { each = each }
  where
    each : (i j : ℕ) (lane : Lane) (number : Option ℕ) (done : Discovered) → slice_get lanes i ≡ Some lane
        → slice_get (values_in (pushed lane.replies)) j ≡ Some (DiscoveryValue number done) → done.fault ≡ None
        → done.run ≤ last_view_run shown
    each i j lane number done here at fault =
        let low = slice_get_within lanes i lane here in
        let p = within_get ps i (omega (arith, low, all.lanes_long)) in
        let client = within_get clients i (omega (arith, low, all.lanes_long, all.clients_long)) in
        absurd (nothing_moved (pushed lane.replies) j (DiscoveryValue number done)
        (all.each i p.0 client.0 lane p.1 client.1 here).nothing_moved at)
