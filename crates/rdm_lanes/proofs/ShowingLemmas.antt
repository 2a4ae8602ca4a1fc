-- What a worker publishes, as its session's log grows.
use Rattle.rdm_lanes.proofs.Common.{◌≡◌, ◌≢◌, ◌+◌, ◌<◌, ◌≤◌, ℕ, List, [], ◌∷◌, ◌++◌, length, take, length-append, refl}
use Rattle.rdm_lanes.proofs.Common.{sym, ap, ◌∙◌, subst, inl, inr, arith, ◌⊎◌, Device, DeviceView, Entry, LogState}
use Rattle.rdm_lanes.proofs.Common.{grown, known_devices, devices_run, NoExchange, opening_view, last_view}
use Rattle.rdm_lanes.proofs.Common.{last_view_run, views_found, all_views, GainOneAtMost, Publishing, NoneLater}
use Rattle.rdm_lanes.proofs.Common.{Publishes}
use Rattle.rdm_lanes.specs.body.Showing.{IsShowing, AllPublished}
use Rattle.rdm_lanes.proofs.ViewFacts.{last_added, none_later_more}
use Rattle.rdm_lanes.proofs.FoundLemmas.{last_known}

-- no run was answered without fault
same_all : (a b : LogState) → NoExchange a b → all_views a.entries ≡ all_views b.entries
same_all a b line = ap (λ (vs : List DeviceView). opening_view ∷ vs) (sym line.same_views)

pub publishes_same : (a b : LogState) (p : Publishing) → NoExchange a b → Publishes a p → Publishes b p
publishes_same a b p line is = record {
  no_run = ap (λ (k : LogState). k.opening.devices_run) line.grows ∙ is.no_run;
  no_devices = ap (λ (k : LogState). k.opening.devices) line.grows ∙ is.no_devices;
  showing = subst (λ (all : List DeviceView). IsShowing all p) (same_all a b line) is.showing;
}

pub all_published_same : (a b : LogState) (p : Publishing) → NoExchange a b → AllPublished a p → AllPublished b p
all_published_same a b p line is = record { shown = is.shown ∙ same_all a b line; added = is.added ∙ same_all a b line }

-- a beginning of a list
take_front : {X : Type 0} (xs ys : List X) → xs ≡ take (length xs) (xs ++ ys)
take_front [] ys = refl
take_front (x ∷ xs) ys = ap (λ l. x ∷ l) (take_front xs ys)

take_whole : {X : Type 0} (xs : List X) → xs ≡ take (length xs) xs
take_whole [] = refl
take_whole (x ∷ xs) = ap (λ l. x ∷ l) (take_whole xs)

-- it is the whole, or the whole but its last
but_last : {X : Type 0} (xs ys : List X) → xs ≡ take (length xs) ys → length ys ≤ length xs + 1 → (xs ≡ ys)
    ⊎ ((y : X) × (ys ≡ xs ++ y ∷ []))
but_last [] [] is few = inl refl
but_last [] (y ∷ []) is few = inr (y, refl)
but_last [] (y ∷ z ∷ ys) is few = absurd (omega (arith, few))
but_last (x ∷ xs) [] is few = absurd (omega (arith, ap length is))
but_last {X} (x ∷ xs) (y ∷ ys) is few = onward (but_last xs ys (cc is) (omega (arith, few)))
  where
    same : x ≡ y
    same = cc is

    onward : (xs ≡ ys) ⊎ ((z : X) × (ys ≡ xs ++ z ∷ [])) → (x ∷ xs ≡ y ∷ ys) ⊎ ((z : X) × (y ∷ ys ≡ (x ∷ xs) ++ z ∷ []))
    onward (inl e) = inl (rw (same, e) refl)
    onward (inr more) = inr (more.0, rw (same, more.1) refl)

-- readers may read all, and all were added
pub showing_all : (all : List DeviceView) (p : Publishing) → NoneLater all → p.shown ≡ all → p.added ≡ all
    → IsShowing all p
showing_all all p none shown added = record {
  none_later = none;
  begin = subst (λ (l : List DeviceView). l ≡ take (length l) all) (sym shown) (take_whole all);
  added = subst (λ (l : List DeviceView). l ≡ take (length l) all) (sym added) (take_whole all);
  lacks_one = omega (arith, ap length shown);
  no_more = omega (arith, ap length shown, ap length added);
  later = λ less. absurd (omega (arith, ap length added, less));
}

-- an exchange was made when readers may read all
showing_found : (before after : List DeviceView) (p : Publishing) → NoneLater (opening_view ∷ before)
    → p.shown ≡ opening_view ∷ before → p.added ≡ opening_view ∷ before → GainOneAtMost before after
    → IsShowing (opening_view ∷ after) p
showing_found before after p none shown added (inl same) =
    let all : opening_view ∷ before
    ≡ opening_view ∷ after = ap (λ (l : List DeviceView). opening_view ∷ l) (sym same) in
    showing_all (opening_view ∷ after) p (subst NoneLater all none) (shown ∙ all) (added ∙ all)
showing_found before after p none shown added (inr more) = record {
  none_later = subst NoneLater (sym whole) (none_later_more (opening_view ∷ before) more.0 none more.2);
  begin = begins shown;
  added = begins added;
  lacks_one = omega (arith, ap length whole, length-append (opening_view ∷ before) (more.0 ∷ []), ap length shown);
  no_more = omega (arith, ap length shown, ap length added);
  later = λ less. subst (λ (l : List DeviceView). last_view_run l < last_view_run (opening_view ∷ after)) (sym added)
      (subst (λ (n : ℕ). last_view_run (opening_view ∷ before) < n)
      (sym (ap last_view_run whole ∙ ap (λ (v : DeviceView). v.run) (last_added (opening_view ∷ before) more.0)))
      more.2);
}
  where
    whole : opening_view ∷ after ≡ (opening_view ∷ before) ++ more.0 ∷ []
    whole = ap (λ (l : List DeviceView). opening_view ∷ l) more.1

    begins : {l : List DeviceView} → l ≡ opening_view ∷ before → l ≡ take (length l) (opening_view ∷ after)
    begins {l} same =
        subst (λ (k : List DeviceView). k ≡ take (length k) (opening_view ∷ after)) (sym same)
        (take_front (opening_view ∷ before) (more.0 ∷ [])
        ∙ ap (λ (k : List DeviceView). take (length (opening_view ∷ before)) k) (sym whole))

pub publishes_found : (a b : LogState) (block : List Entry) (p : Publishing) → AllPublished a p → b ≡ grown a block
    → GainOneAtMost (views_found a.entries) (views_found b.entries) → Publishes a p → Publishes b p
publishes_found a b block p all grows once is = record {
  no_run = ap (λ (k : LogState). k.opening.devices_run) grows ∙ is.no_run;
  no_devices = ap (λ (k : LogState). k.opening.devices) grows ∙ is.no_devices;
  showing = showing_found (views_found a.entries) (views_found b.entries) p is.showing.none_later all.shown all.added
      once;
}

-- the last view has the session's devices
last_is : (k : LogState) (p : Publishing) → Publishes k p → (v : DeviceView) → all_views k.entries ≡ p.added ++ v ∷ []
    → v ≡ record { run = devices_run k.opening k.entries; set = known_devices k.opening k.entries }
last_is k p is v here =
    sym (last_added p.added v) ∙ (ap last_view (sym here) ∙ last_known k.opening k.entries is.no_devices is.no_run)

last_run_is : (k : LogState) (p : Publishing) → Publishes k p
    → last_view_run (all_views k.entries) ≡ devices_run k.opening k.entries
last_run_is k p is = ap (λ (v : DeviceView). v.run) (last_known k.opening k.entries is.no_devices is.no_run)

-- all views were added, or all but the last
added_or_one : (all : List DeviceView) (p : Publishing) → IsShowing all p → (p.added ≡ all)
    ⊎ ((v : DeviceView) × (all ≡ p.added ++ v ∷ []))
added_or_one all p is = but_last p.added all is.added (omega (arith, is.lacks_one, is.no_more))

-- a view of a later run than those that were added is the one that is lacking
pub added_next : (k : LogState) (p q : Publishing) (run : ℕ) (devices : List Device) → Publishes k p
    → run ≡ devices_run k.opening k.entries → devices ≡ known_devices k.opening k.entries → last_view_run p.added < run
    → q.added ≡ p.added ++ record { run = run; set = devices } ∷ [] → q.added ≡ all_views k.entries
added_next k p q run devices is run_is devices_are less adds =
    by_added (added_or_one (all_views k.entries) p is.showing)
  where
    by_added : (p.added ≡ all_views k.entries) ⊎ ((v : DeviceView) × (all_views k.entries ≡ p.added ++ v ∷ []))
        → q.added ≡ all_views k.entries
    by_added (inl all) = absurd (omega (arith, less, run_is, ap last_view_run all, last_run_is k p is))
    by_added (inr lacks) =
        adds ∙ (rw (run_is, devices_are)
        (ap (λ (v : DeviceView). p.added ++ v ∷ []) (sym (last_is k p is lacks.0 lacks.1))) ∙ sym lacks.1)

-- else none is lacking
pub added_all : (k : LogState) (p : Publishing) (run : ℕ) → Publishes k p → run ≡ devices_run k.opening k.entries
    → (last_view_run p.added < run → ⊥) → p.added ≡ all_views k.entries
added_all k p run is run_is none = by_added (added_or_one (all_views k.entries) p is.showing)
  where
    by_added : (p.added ≡ all_views k.entries) ⊎ ((v : DeviceView) × (all_views k.entries ≡ p.added ++ v ∷ []))
        → p.added ≡ all_views k.entries
    by_added (inl all) = all
    by_added (inr lacks) =
        absurd (none
        (omega (
          arith,
          is.showing.later (omega (arith, ap length lacks.1 ∙ length-append p.added (lacks.0 ∷ []))),
          run_is,
          last_run_is k p is,
        )))

-- where the publication is made
pub all_published : (k : LogState) (p q : Publishing) → p.added ≡ all_views k.entries → q.added ≡ p.added
    → q.shown ≡ q.added → AllPublished k q
all_published k p q all added shown = record { shown = shown ∙ (added ∙ all); added = added ∙ all }

pub publishes_shown : (k : LogState) (p q : Publishing) → Publishes k p → p.added ≡ all_views k.entries
    → q.added ≡ p.added → q.shown ≡ q.added → Publishes k q
publishes_shown k p q is all added shown = record {
  no_run = is.no_run;
  no_devices = is.no_devices;
  showing = showing_all (all_views k.entries) q is.showing.none_later (shown ∙ (added ∙ all)) (added ∙ all);
}

-- the view that was lacking was added
pub publishes_next : (k : LogState) (p q : Publishing) (run : ℕ) (devices : List Device) → Publishes k p
    → run ≡ devices_run k.opening k.entries → devices ≡ known_devices k.opening k.entries → last_view_run p.added < run
    → q.added ≡ p.added ++ record { run = run; set = devices } ∷ [] → q.shown ≡ p.shown → Publishes k q
publishes_next k p q run devices is run_is devices_are less adds shown = record {
  no_run = is.no_run;
  no_devices = is.no_devices;
  showing = record {
    none_later = is.showing.none_later;
    begin = subst (λ (l : List DeviceView). l ≡ take (length l) (all_views k.entries)) (sym shown) is.showing.begin;
    added = subst (λ (l : List DeviceView). l ≡ take (length l) (all_views k.entries)) (sym all)
        (take_whole (all_views k.entries));
    lacks_one = omega (arith, ap length shown, is.showing.lacks_one);
    no_more = omega (
      arith,
      ap length shown,
      is.showing.no_more,
      ap length adds,
      length-append p.added (record { run = run; set = devices } ∷ []),
    );
    later = λ less. absurd (omega (arith, ap length all, less));
  };
}
  where
    all : q.added ≡ all_views k.entries
    all = added_next k p q run devices is run_is devices_are less adds

-- what was shown and added is the same
pub publishes_still : (k : LogState) (p q : Publishing) → Publishes k p → q.shown ≡ p.shown → q.added ≡ p.added
    → Publishes k q
publishes_still k p q is shown added = subst (λ (r : Publishing). Publishes k r) (sym (both p q shown added)) is
  where
    both : (p q : Publishing) → q.shown ≡ p.shown → q.added ≡ p.added → q ≡ p
    both p q e f i = record { shown = e i; added = f i }

-- a view of a later run than those that were added isn't shown
pub lacks_view : (k : LogState) (p q : Publishing) (run : ℕ) → Publishes k p → run ≡ devices_run k.opening k.entries
    → last_view_run p.added < run → q.shown ≡ p.shown → q.shown ≢ all_views k.entries
lacks_view k p q run is run_is less same whole = by_added (added_or_one (all_views k.entries) p is.showing)
  where
    by_added : (p.added ≡ all_views k.entries) ⊎ ((v : DeviceView) × (all_views k.entries ≡ p.added ++ v ∷ [])) → ⊥
    by_added (inl all) = omega (arith, less, run_is, ap last_view_run all, last_run_is k p is)
    by_added (inr lacks) =
        omega (
          arith,
          ap length lacks.1 ∙ length-append p.added (lacks.0 ∷ []),
          is.showing.no_more,
          ap length whole,
          ap length same,
        )
