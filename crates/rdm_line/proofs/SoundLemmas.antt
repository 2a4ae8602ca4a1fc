-- What always holds of a simulated line, after what happens to it.
use Rattle.std.proofs.Common.{◌≡◌, ℕ, suc, ◌+◌, ◌<◌, ◌≤◌, Bool, true, false, ◌||◌, cond, List, [], ◌∷◌, length, Option}
use Rattle.std.proofs.Common.{Some, None, refl, sym, ap, ◌∙◌, subst, inl, inr, true≢false, arith}
use Rattle.std.specs.Prelude.{◌⊎◌, ◌==◌, nat_lt, nat_le, option_map, option_and_then, Result, Ok, Err, IsErr, OnOk}
use Rattle.std.specs.List.{AllByRecursion}
use Rattle.std.proofs.lemmas.Bool.{eqb-true, eq-eqb, ne_eqb, or_cases, and_parts, cases_order, ltb-false, leb-true}
use Rattle.std.proofs.Math.Bool.{or-true}
use Rattle.std.proofs.lemmas.List.{length-map}
use Rattle.std.proofs.lemmas.Option.{same_Some}
use Rattle.rdm_wire.specs.Uid.{has, with_uid, IsDevice, IsAscending}
use Rattle.rdm_wire.proofs.SetLemmas.{devices-with_uid, has-with_uid}
use Rattle.rdm_line.specs.Parameters.{sent_of}
use Rattle.rdm_wire.specs.declared.uid_set.SetFull.{SetFull}
use Rattle.rdm_line.specs.Scenes.{IsScene, IsSceneDevice, uids_of_scene, find_device, device_at, is_present, sent_by}
use Rattle.rdm_line.specs.Sim.{next_exchange, last_exchange}
use Rattle.rdm_line.specs.SimSound.{IsSound, from_of}
use Rattle.rdm_line.specs.declared.scene.SceneDevice.{SceneDevice}
use Rattle.rdm_line.proofs.SceneLemmas.{with_params, scene-sent, uids-sent}

-- the device that is found by its UID
pub record IsDeviceAt (i u : ℕ) (ds : List SceneDevice) (d : SceneDevice) : Type 0 where
  pub uid : d.device.uid ≡ u
  pub own : IsDevice u
  pub there : has (uids_of_scene ds) u ≡ true
  pub of_scene : IsSceneDevice d
  pub present : is_present i d ≡ true
  pub found : find_device ds u ≡ Some d

record IsFound (u : ℕ) (ds : List SceneDevice) (d : SceneDevice) : Type 0 where
  uid : d.device.uid ≡ u
  own : IsDevice u
  there : has (uids_of_scene ds) u ≡ true
  of_scene : IsSceneDevice d

found_is : (ds : List SceneDevice) (u : ℕ) (d : SceneDevice) → AllByRecursion IsDevice (uids_of_scene ds)
    → AllByRecursion IsSceneDevice ds → find_device ds u ≡ Some d → IsFound u ds d
found_is [] u d own each h = absurd (let wrong : ⊥ = cc in wrong)
found_is (e ∷ es) u d own each h = by_test (e.device.uid == u) refl (found_is es u d own.1 each.1)
  where
    by_test : (t : Bool) → (e.device.uid == u) ≡ t → (find_device es u ≡ Some d → IsFound u es d) → IsFound u (e ∷ es) d
    by_test true is rest =
        let uid : e.device.uid ≡ u = eqb-true e.device.uid u is in
        let same : e ≡ d = same_Some e d (subst (λ t. cond t (Some e) (find_device es u) ≡ Some d) is h) in
        subst (IsFound u (e ∷ es)) same (record {
          uid = uid;
          own = subst IsDevice uid own.0;
          there = rw (eq-eqb u e.device.uid (sym uid)) refl;
          of_scene = each.0;
        })
    by_test false is rest =
        let f = rest (subst (λ t. cond t (Some e) (find_device es u) ≡ Some d) is h) in
        record {
          uid = f.uid;
          own = f.own;
          there = ap (λ b. (u == e.device.uid) || b) f.there ∙ or-true (u == e.device.uid);
          of_scene = f.of_scene;
        }

pub device_at_is : (i u : ℕ) (ds : List SceneDevice) (d : SceneDevice) → IsScene ds → device_at i ds u ≡ Some d
    → IsDeviceAt i u ds d
device_at_is i u ds d scene h = by_option (find_device ds u) refl h
  where
    by_test : (e : SceneDevice) → find_device ds u ≡ Some e → (t : Bool) → is_present i e ≡ t
        → cond t (Some e) None ≡ Some d → IsDeviceAt i u ds d
    by_test e is true here g =
        let same : e ≡ d = same_Some e d g in
        let f = found_is ds u e scene.uids.devices scene.each is in
        subst (IsDeviceAt i u ds) same (record {
          uid = f.uid;
          own = f.own;
          there = f.there;
          of_scene = f.of_scene;
          present = here;
          found = is;
        })
    by_test e is false here g = absurd (let wrong : ⊥ = cc in wrong)

    by_option : (o : Option SceneDevice) → find_device ds u ≡ o
        → option_and_then (λ e. cond (is_present i e) (Some e) None) o ≡ Some d → IsDeviceAt i u ds d
    by_option None is g = absurd (let wrong : ⊥ = cc in wrong)
    by_option (Some e) is g = by_test e is (is_present i e) refl g

-- an ascending list is no longer than one with all its members
above-member : (v : ℕ) (us : List ℕ) (u : ℕ) → AllByRecursion (λ w. v < w) us → has us u ≡ true → v < u
above-member v [] u all h = absurd (true≢false (sym h))
above-member v (w ∷ us) u all h = elim (or_cases (u == w) (has us u) h) [
  | inl is ↦ let same : u ≡ w = eqb-true u w is in let p : v < w = all.0 in omega arith
  | inr rest ↦ above-member v us u all.1 rest
]

no_longer : (xs ys : List ℕ) → IsAscending xs → IsAscending ys → ((u : ℕ) → has xs u ≡ true → has ys u ≡ true)
    → length xs ≤ length ys
no_longer [] ys a b within = omega arith
no_longer (x ∷ xs) [] a b within = absurd (true≢false (sym (within x (rw (eq-eqb x x refl) refl))))
no_longer (x ∷ xs) (y ∷ ys) a b within = elim (cases_order x y) [
  | inl same ↦ let rest : length xs ≤ length ys = no_longer xs ys a.1 b.1 (after same) in omega arith
  | inr (inl less) ↦ absurd (none less)
  | inr (inr more) ↦ let rest : suc (length xs) ≤ length ys = no_longer (x ∷ xs) ys a b.1 (beyond more) in omega arith
]
  where
    first : has (x ∷ xs) x ≡ true
    first = rw (eq-eqb x x refl) refl

    later : (u : ℕ) → has xs u ≡ true → has (x ∷ xs) u ≡ true
    later u h = ap (λ t. (u == x) || t) h ∙ or-true (u == x)

    after : x ≡ y → (u : ℕ) → has xs u ≡ true → has ys u ≡ true
    after same u h =
        let p : x < u = above-member x xs u a.0 h in
        rw (ne_eqb u y (omega arith)) at (within u (later u h))

    none : x < y → ⊥
    none less = elim (or_cases (x == y) (has ys x) (within x first)) [
      | inl is ↦ let same : x ≡ y = eqb-true x y is in absurd (omega arith)
      | inr rest ↦ let p : y < x = above-member y ys x b.0 rest in absurd (omega arith)
    ]

    beyond : y < x → (u : ℕ) → has (x ∷ xs) u ≡ true → has ys u ≡ true
    beyond more u h = elim (or_cases (u == x) (has xs u) h) [
      | inl is ↦ let same : u ≡ x = eqb-true u x is in rw (ne_eqb u y (omega arith)) at (within u h)
      | inr rest ↦ let p : x < u = above-member x xs u a.0 rest in rw (ne_eqb u y (omega arith)) at (within u h)
    ]

length-new : (u : ℕ) (us : List ℕ) → has us u ≡ false → length (with_uid u us) ≡ suc (length us)
length-new u [] h = refl
length-new u (v ∷ vs) h = by_test (nat_lt u v) (u == v) refl (length-new u vs)
  where
    by_test : (t k : Bool) → (u == v) ≡ k → (has vs u ≡ false → length (with_uid u vs) ≡ suc (length vs))
        → length (cond t (u ∷ v ∷ vs) (cond k (v ∷ vs) (v ∷ with_uid u vs))) ≡ suc (suc (length vs))
    by_test true k is rest = refl
    by_test false true is rest = absurd (true≢false (subst (λ b. (b || has vs u) ≡ false) is h))
    by_test false false is rest = ap suc (rest (subst (λ b. (b || has vs u) ≡ false) is h))

-- a device is muted
pub sound-muted : (u i : ℕ) (d : SceneDevice) (ds : List SceneDevice) (muted losses fails : List ℕ)
    (exchanges failures : ℕ)
    → IsSound ds muted losses fails exchanges failures → IsDeviceAt i u ds d → exchanges ≡ next_exchange i
    → IsSound ds (with_uid u muted) losses fails exchanges failures
sound-muted u i d ds muted losses fails exchanges failures s at counted = record {
  scene = s.scene;
  muted_set = devices-with_uid u muted at.own s.muted_set;
  present = λ v h. elim (or_cases (v == u) (has muted v) (sym (has-with_uid u muted v) ∙ h)) [
    | inl is ↦ subst (λ w. has (uids_of_scene ds) w ≡ true) (sym (eqb-true v u is)) at.there
    | inr was ↦ s.present v was
  ];
  came = λ v from h f. elim (or_cases (v == u) (has muted v) (sym (has-with_uid u muted v) ∙ h)) [
    | inl is ↦ before v from (eqb-true v u is) f
    | inr was ↦ s.came v from was f
  ];
  losses_ascend = s.losses_ascend;
  fails_ascend = s.fails_ascend;
  few_failures = s.few_failures;
}
  where
    is_next : (n m : ℕ) → m ≡ next_exchange n → (m ≡ n + 1) ⊎ ((m ≡ n) × (last_exchange ≤ n))
    is_next n m e = by_test (nat_lt n last_exchange) refl e
      where
        by_test : (t : Bool) → nat_lt n last_exchange ≡ t → m ≡ cond t (n + 1) n → (m ≡ n + 1)
            ⊎ ((m ≡ n) × (last_exchange ≤ n))
        by_test true is g = inl g
        by_test false is g = inr (g, ltb-false n last_exchange is)

    before : (v from : ℕ) → v ≡ u → from_of ds v ≡ Some from → from < exchanges
    before v from same f =
        let found : Some d.from ≡ Some from = sym (ap (option_map (λ (e : SceneDevice). e.from)) at.found)
        ∙ ap (from_of ds) (sym same) ∙ f in
        let is : d.from ≡ from = same_Some d.from from found in
        let few : d.from ≤ 1000000000 = at.of_scene.from in
        let here : d.from ≤ i = leb-true d.from i (and_parts (nat_le d.from i) _ at.present).0 in
        elim (is_next i exchanges counted) [
          | inl more ↦ omega arith
          | inr stays ↦ let past : last_exchange ≤ i = stays.1 in
              let e : exchanges ≡ i = stays.0 in omega arith
        ]

-- there is room for each device among the muted ones
pub not_full : (u i : ℕ) (d : SceneDevice) (ds : List SceneDevice) (muted losses fails : List ℕ)
    (exchanges failures : ℕ)
    → IsSound ds muted losses fails exchanges failures → IsDeviceAt i u ds d → has muted u ≡ false → length muted ≡ 1024
    → ⊥
not_full u i d ds muted losses fails exchanges failures s at absent full =
    let few : length (with_uid u muted) ≤ length (uids_of_scene ds) =
    no_longer (with_uid u muted) (uids_of_scene ds) (devices-with_uid u muted at.own s.muted_set).ascending
    s.scene.uids.ascending within in
    let size : length (uids_of_scene ds) ≡ length ds = length-map ds (λ d. d.device.uid) in
    let most : length ds ≤ 1024 = s.scene.few in
    let grown : length (with_uid u muted) ≡ suc (length muted) = length-new u muted absent in
    omega arith
  where
    within : (v : ℕ) → has (with_uid u muted) v ≡ true → has (uids_of_scene ds) v ≡ true
    within v h = elim (or_cases (v == u) (has muted v) (sym (has-with_uid u muted v) ∙ h)) [
      | inl is ↦ subst (λ w. has (uids_of_scene ds) w ≡ true) (sym (eqb-true v u is)) at.there
      | inr was ↦ s.present v was
    ]

-- so a device is put among them
pub put_in : (u : ℕ) (old new : List ℕ) (r : Result Bool SetFull) → OnOk r (new ≡ with_uid u old)
    → (IsErr r → (has old u ≡ false) × (length old ≡ 1024))
    → (has old u ≡ false → length old ≡ 1024 → ⊥) → new ≡ with_uid u old
put_in u old new (Ok b) ok err room = ok
put_in u old new (Err e) ok err room = let full = err refl in absurd (room full.0 full.1)

-- an exchange is counted
pub sound-counted : (ds : List SceneDevice) (muted losses fails : List ℕ) (exchanges more failures : ℕ)
    → IsSound ds muted losses fails exchanges failures → exchanges ≤ more → IsSound ds muted losses fails more failures
sound-counted ds muted losses fails exchanges more failures s up = record {
  scene = s.scene;
  muted_set = s.muted_set;
  present = s.present;
  came = λ u from h f. let p : from < exchanges = s.came u from h f in omega arith;
  losses_ascend = s.losses_ascend;
  fails_ascend = s.fails_ascend;
  few_failures = let p : failures ≤ exchanges = s.few_failures in omega arith;
}

-- where a part was sent, the devices come as before
pub from-sent : (u pid : ℕ) (ds : List SceneDevice) (v : ℕ) → from_of (sent_by u pid ds) v ≡ from_of ds v
from-sent u pid [] v = refl
from-sent u pid (d ∷ ds) v = by_test (d.device.uid == u) (d.device.uid == v) (from-sent u pid ds v)
  where
    by_test : (t k : Bool) → from_of (sent_by u pid ds) v ≡ from_of ds v
        → option_map (λ (e : SceneDevice). e.from)
        (find_device (cond t (with_params d (sent_of pid d.params) ∷ ds) (d ∷ sent_by u pid ds)) v)
        ≡ option_map (λ (e : SceneDevice). e.from) (cond (d.device.uid == v) (Some d) (find_device ds v))
    by_test true k rest = either (d.device.uid == v)
      where
        either : (b : Bool) → option_map (λ (e : SceneDevice). e.from)
            (cond b (Some (with_params d (sent_of pid d.params))) (find_device ds v)) ≡ option_map
            (λ (e : SceneDevice). e.from) (cond b (Some d) (find_device ds v))
        either true = refl
        either false = refl
    by_test false k rest = either (d.device.uid == v)
      where
        either : (b : Bool) → option_map (λ (e : SceneDevice). e.from)
            (cond b (Some d) (find_device (sent_by u pid ds) v)) ≡ option_map (λ (e : SceneDevice). e.from)
            (cond b (Some d) (find_device ds v))
        either true = refl
        either false = rest

-- after a part was sent
pub sound-sent : (u pid : ℕ) (ds : List SceneDevice) (muted losses fails : List ℕ) (exchanges failures : ℕ)
    → IsSound ds muted losses fails exchanges failures
    → IsSound (sent_by u pid ds) muted losses fails exchanges failures
sound-sent u pid ds muted losses fails exchanges failures s = record {
  scene = scene-sent u pid ds s.scene;
  muted_set = s.muted_set;
  present = λ v h. rw (uids-sent u pid ds) (s.present v h);
  came = λ v from h f. s.came v from h (sym (from-sent u pid ds v) ∙ f);
  losses_ascend = s.losses_ascend;
  fails_ascend = s.fails_ascend;
  few_failures = s.few_failures;
}
