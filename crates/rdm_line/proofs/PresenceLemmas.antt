-- The devices that are present at an exchange.
use Rattle.std.proofs.Common.{◌≡◌, ℕ, ◌<◌, Bool, true, false, cond, List, [], ◌∷◌, refl, sym, ap, ◌∙◌, subst, inl, inr}
use Rattle.std.proofs.Common.{true≢false, arith}
use Rattle.std.specs.Prelude.{◌==◌, ◌&&◌, ◌||◌, not, nat_le, filter, is_some}
use Rattle.std.specs.List.{AllByRecursion}
use Rattle.std.proofs.lemmas.Bool.{eqb-true, eq-eqb, ne_eqb, cases_Bool, le-leb}
use Rattle.std.proofs.Math.Bool.{or-true}
use Rattle.rdm_wire.specs.Uid.{has, is_within, IsAscending, IsDevice, IsDeviceSet}
use Rattle.rdm_wire.specs.Span.{Span}
use Rattle.rdm_wire.specs.Honest.{due_in}
use Rattle.rdm_line.specs.Parameters.{sent_of}
use Rattle.rdm_line.specs.Scenes.{IsScene, uids_of_scene, device_at, is_present, is_before, Stays, present_at, sent_by}
use Rattle.rdm_line.specs.Sim.{SimState, answering, answers_branch}
use Rattle.rdm_line.specs.declared.scene.SceneDevice.{SceneDevice}
use Rattle.rdm_line.proofs.SceneLemmas.{with_params}

-- some of the devices, by a test, are a device set too
above-some : (p : SceneDevice → Bool) (u : ℕ) (ds : List SceneDevice) → AllByRecursion (λ v. u < v) (uids_of_scene ds)
    → AllByRecursion (λ v. u < v) (uids_of_scene (filter p ds))
above-some p u [] all = tt
above-some p u (d ∷ ds) all = by_test (p d) (above-some p u ds all.1)
  where
    by_test : (t : Bool) → AllByRecursion (λ v. u < v) (uids_of_scene (filter p ds))
        → AllByRecursion (λ v. u < v) (uids_of_scene (cond t (d ∷ filter p ds) (filter p ds)))
    by_test true rest = (all.0, rest)
    by_test false rest = rest

ascending-some : (p : SceneDevice → Bool) (ds : List SceneDevice) → IsAscending (uids_of_scene ds)
    → IsAscending (uids_of_scene (filter p ds))
ascending-some p [] a = tt
ascending-some p (d ∷ ds) a = by_test (p d) (ascending-some p ds a.1)
  where
    by_test : (t : Bool) → IsAscending (uids_of_scene (filter p ds))
        → IsAscending (uids_of_scene (cond t (d ∷ filter p ds) (filter p ds)))
    by_test true rest = (above-some p d.device.uid ds a.0, rest)
    by_test false rest = rest

devices-some : (p : SceneDevice → Bool) (ds : List SceneDevice) → AllByRecursion IsDevice (uids_of_scene ds)
    → AllByRecursion IsDevice (uids_of_scene (filter p ds))
devices-some p [] all = tt
devices-some p (d ∷ ds) all = by_test (p d) (devices-some p ds all.1)
  where
    by_test : (t : Bool) → AllByRecursion IsDevice (uids_of_scene (filter p ds))
        → AllByRecursion IsDevice (uids_of_scene (cond t (d ∷ filter p ds) (filter p ds)))
    by_test true rest = (all.0, rest)
    by_test false rest = rest

pub present_set : (ds : List SceneDevice) (i : ℕ) → IsScene ds → IsDeviceSet (present_at ds i)
present_set ds i scene = record {
  devices = devices-some (is_present i) ds scene.uids.devices;
  ascending = ascending-some (is_present i) ds scene.uids.ascending;
}

-- a UID is among those present exactly when its device is found, present
above-not : (u : ℕ) (us : List ℕ) → AllByRecursion (λ v. u < v) us → has us u ≡ false
above-not u [] all = refl
above-not u (v ∷ us) all = let p : u < v = all.0 in rw (ne_eqb u v (omega arith)) (above-not u us all.1)

pub present_is : (ds : List SceneDevice) (i u : ℕ) → IsAscending (uids_of_scene ds)
    → has (present_at ds i) u ≡ is_some (device_at i ds u)
present_is [] i u a = refl
present_is (d ∷ ds) i u a = by_tests (is_present i d) (d.device.uid == u) refl refl (present_is ds i u a.1)
  where
    later : d.device.uid ≡ u → has (present_at ds i) u ≡ false
    later same =
        subst (λ v. has (present_at ds i) v ≡ false) same
        (above-not d.device.uid (present_at ds i) (above-some (is_present i) d.device.uid ds a.0))

    by_tests : (t k : Bool) → is_present i d ≡ t → (d.device.uid == u) ≡ k
        → has (present_at ds i) u ≡ is_some (device_at i ds u)
        → has (uids_of_scene (cond t (d ∷ filter (is_present i) ds) (filter (is_present i) ds))) u
        ≡ is_some (device_at i (d ∷ ds) u)
    by_tests true true here is rest =
        let same : d.device.uid ≡ u = eqb-true d.device.uid u is in rw (is, here, eq-eqb u d.device.uid (sym same)) refl
    by_tests false true here is rest = rw (is, here) (later (eqb-true d.device.uid u is))
    by_tests true false here is rest = rw (is, other) rest
      where
        other : (u == d.device.uid) ≡ false
        other = swap (d.device.uid == u) refl
          where
            swap : (b : Bool) → (d.device.uid == u) ≡ b → (u == d.device.uid) ≡ false
            swap true e = absurd (true≢false (sym e ∙ is))
            swap false e =
                elim (cases_Bool (u == d.device.uid)) [
                  | inl same ↦ absurd (true≢false
                      (sym (eq-eqb d.device.uid u (sym (eqb-true u d.device.uid same))) ∙ is))
                  | inr no_match ↦ no_match
                ]
    by_tests false false here is rest = rw is rest

-- the devices that are due to answer a branch are those that answer it
each_present : (i : ℕ) (ds : List SceneDevice) (P : ℕ → Bool) → ((u : ℕ) → has (present_at ds i) u ≡ true → P u ≡ true)
    → AllByRecursion (λ d. is_present i d ≡ true → P d.device.uid ≡ true) ds
each_present i [] P all = tt
each_present i (d ∷ ds) P all = by_test (is_present i d) refl (each_present i ds P)
  where
    by_test : (t : Bool) → is_present i d ≡ t
        → (((u : ℕ) → has (present_at ds i) u ≡ true → P u ≡ true)
        → AllByRecursion (λ e. is_present i e ≡ true → P e.device.uid ≡ true) ds)
        → AllByRecursion (λ e. is_present i e ≡ true → P e.device.uid ≡ true) (d ∷ ds)
    by_test true here rest = (
      λ h. all d.device.uid (rw (here, eq-eqb d.device.uid d.device.uid refl) refl),
      rest (λ u h. all u (rw here (ap (λ b. (u == d.device.uid) || b) h ∙ or-true (u == d.device.uid)))),
    )
    by_test false here rest = (λ h. absurd (true≢false (sym h ∙ here)), rest (λ u h. all u (rw here h)))

due-some : (i lo hi : ℕ) (muted : List ℕ) (P : ℕ → Bool) (ds : List SceneDevice)
    → AllByRecursion (λ d. is_present i d ≡ true → P d.device.uid ≡ true) ds
    → filter (λ u. is_within lo hi u && not (P u && has muted u)) (present_at ds i)
    ≡ uids_of_scene (filter (answers_branch i muted (record { lo = lo; hi = hi })) ds)
due-some i lo hi muted P [] all = refl
due-some i lo hi muted P (d ∷ ds) all = by_test (is_present i d) refl (due-some i lo hi muted P ds all.1)
  where
    by_test : (t : Bool) → is_present i d ≡ t
        → filter (λ u. is_within lo hi u && not (P u && has muted u)) (present_at ds i)
        ≡ uids_of_scene (filter (answers_branch i muted (record { lo = lo; hi = hi })) ds)
        → filter (λ u. is_within lo hi u && not (P u && has muted u))
        (uids_of_scene (cond t (d ∷ filter (is_present i) ds) (filter (is_present i) ds)))
        ≡ uids_of_scene (cond ((t && is_within lo hi d.device.uid) && not (has muted d.device.uid))
        (d ∷ filter (answers_branch i muted (record { lo = lo; hi = hi })) ds)
        (filter (answers_branch i muted (record { lo = lo; hi = hi })) ds))
    by_test true here rest = rw (all.0 here) (either (is_within lo hi d.device.uid && not (has muted d.device.uid)))
      where
        either : (b : Bool) → cond b (d.device.uid ∷ filter (λ u. is_within lo hi u && not (P u && has muted u))
            (present_at ds i)) (filter (λ u. is_within lo hi u && not (P u && has muted u)) (present_at ds i))
            ≡ uids_of_scene
            (cond b (d ∷ filter (answers_branch i muted (record { lo = lo; hi = hi })) ds)
            (filter (answers_branch i muted (record { lo = lo; hi = hi })) ds))
        either true = ap (λ l. d.device.uid ∷ l) rest
        either false = rest
    by_test false here rest = rest

-- which devices are muted among those present
abbrev pub muted_among : List ℕ → List ℕ → ℕ → Bool
muted_among present muted u = has present u && has muted u

pub due_is : (i : ℕ) (s : SimState) (range : Span)
    → due_in (present_at s.devices i) (muted_among (present_at s.devices i) s.muted) range.lo range.hi
    ≡ uids_of_scene (answering i s range)
due_is i s range =
    due-some i range.lo range.hi s.muted (has (present_at s.devices i)) s.devices
    (each_present i s.devices (has (present_at s.devices i)) (λ u h. h))

-- after a part was sent the same devices are present
pub present-sent : (u pid : ℕ) (ds : List SceneDevice) (i : ℕ) → present_at (sent_by u pid ds) i ≡ present_at ds i
present-sent u pid [] i = refl
present-sent u pid (d ∷ ds) i = by_test (d.device.uid == u) (present-sent u pid ds i)
  where
    either : (t : Bool) → present_at (sent_by u pid ds) i ≡ present_at ds i
        → uids_of_scene (cond t (d ∷ filter (is_present i) (sent_by u pid ds))
        (filter (is_present i) (sent_by u pid ds))) ≡ uids_of_scene
        (cond t (d ∷ filter (is_present i) ds) (filter (is_present i) ds))
    either true rest = ap (λ l. d.device.uid ∷ l) rest
    either false rest = rest

    first : (t : Bool) → uids_of_scene (cond t (with_params d (sent_of pid d.params) ∷ filter (is_present i) ds)
        (filter (is_present i) ds)) ≡ uids_of_scene (cond t (d ∷ filter (is_present i) ds) (filter (is_present i) ds))
    first true = refl
    first false = refl

    by_test : (k : Bool) → present_at (sent_by u pid ds) i ≡ present_at ds i
        → present_at (cond k (with_params d (sent_of pid d.params) ∷ ds) (d ∷ sent_by u pid ds)) i
        ≡ present_at (d ∷ ds) i
    by_test true rest = first (is_present i d)
    by_test false rest = either (is_present i d) rest

-- devices that stay are always present
pub all_present : (ds : List SceneDevice) (i : ℕ) → AllByRecursion Stays ds → present_at ds i ≡ uids_of_scene ds
all_present [] i all = refl
all_present (d ∷ ds) i all = rw here (ap (λ us. d.device.uid ∷ us) (all_present ds i all.1))
  where
    here : is_present i d ≡ true
    here = ap (λ o. nat_le d.from i && is_before i o) all.0.never
        ∙ ap (λ b. b && true) (le-leb d.from i (omega (arith, all.0.from_start)))
