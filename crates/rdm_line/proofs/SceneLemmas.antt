-- Devices of a scene, by their indices.
use Rattle.std.proofs.Common.{◌≡◌, ◌≢◌, ℕ, suc, ◌<◌, ◌≤◌, Bool, true, false, cond, List, [], ◌∷◌, length, get_or}
use Rattle.std.proofs.Common.{Option, Some, None, refl, sym, ap, ◌∙◌, subst, arith}
use Rattle.std.specs.Prelude.{◌==◌, nat_lt, slice_get, option_and_then}
use Rattle.std.proofs.lemmas.Option.{slice_get-get_or}
use Rattle.arrayvec.specs.ArrayVec.{ArrayVec}
use Rattle.rdm_wire.specs.declared.response.AckType.{AckType}
use Rattle.std.specs.List.{AllByRecursion, insert}
use Rattle.std.proofs.Math.ListN.{set}
use Rattle.std.proofs.lemmas.Bool.{eqb-true, eqb-false, eq-eqb, ne_eqb, lt-ltb, le-ltb, ltb-true, ltb-false}
use Rattle.rdm_wire.specs.Uid.{has, with_uid, IsDevice, IsAscending}
use Rattle.rdm_wire.proofs.SetLemmas.{devices-with_uid, above_more}
use Rattle.rdm_line.specs.Parameters.{ParameterState, parameter_of, sent_of}
use Rattle.rdm_line.specs.body.Parts.{AnswersPart, parameter_at}
use Rattle.rdm_line.specs.Scenes.{IsScene, IsSceneDevice, uids_of_scene, with_scene_device, find_device, sent_by}
use Rattle.rdm_line.specs.body.SceneIndices.{index_in, has_at, IsFoundAt, IsFreeAt}
use Rattle.rdm_line.specs.declared.scene.SceneDevice.{SceneDevice}

-- a device with other parameters
abbrev pub with_params : SceneDevice → List ParameterState → SceneDevice
with_params d ps = record d { params = ps }

-- the index in a list with one more device in front
index_after : (d : SceneDevice) (ds : List SceneDevice) (u : ℕ) → nat_lt d.device.uid u ≡ true
    → index_in (d ∷ ds) u ≡ suc (index_in ds u)
index_after d ds u is = rw is (omega arith)

index_first : (d : SceneDevice) (ds : List SceneDevice) (u : ℕ) → nat_lt d.device.uid u ≡ false
    → index_in (d ∷ ds) u ≡ 0
index_first d ds u is = rw is refl

-- the device that stands at its index is found there
record Stands (ds : List SceneDevice) (u i : ℕ) : Type 0 where
  within : i < length ds
  found : find_device ds u ≡ slice_get ds i
  there : has (uids_of_scene ds) u ≡ true
  sent : (pid : ℕ) (e : SceneDevice)
      → sent_by u pid ds ≡ set ds i (with_params (get_or ds i e) (sent_of pid (get_or ds i e).params))

stands-first : (d : SceneDevice) (ds : List SceneDevice) (u : ℕ) → (d.device.uid == u) ≡ true → Stands (d ∷ ds) u 0
stands-first d ds u is = record {
  within = omega arith;
  found = rw is refl;
  there = rw (eq-eqb u d.device.uid (sym (eqb-true d.device.uid u is))) refl;
  sent = λ pid e. rw is refl;
}

stands-after : (d : SceneDevice) (ds : List SceneDevice) (u i : ℕ) → d.device.uid < u → Stands ds u i
    → Stands (d ∷ ds) u (suc i)
stands-after d ds u i below s = record {
  within = let p : i < length ds = s.within in omega arith;
  found = rw (ne_eqb d.device.uid u (omega arith)) s.found;
  there = rw (ne_eqb u d.device.uid (omega arith)) s.there;
  sent = λ pid e. rw (ne_eqb d.device.uid u (omega arith)) (ap (λ l. d ∷ l) (s.sent pid e));
}

stands : (ds : List SceneDevice) (u : ℕ) → has_at (index_in ds u) u ds ≡ true → Stands ds u (index_in ds u)
stands [] u h = absurd (let wrong : ⊥ = cc in wrong)
stands (d ∷ ds) u h = by_test (nat_lt d.device.uid u) refl (stands ds u)
  where
    by_test : (t : Bool) → nat_lt d.device.uid u ≡ t
        → (has_at (index_in ds u) u ds ≡ true → Stands ds u (index_in ds u)) → Stands (d ∷ ds) u (index_in (d ∷ ds) u)
    by_test true is rest =
        let at = index_after d ds u is in
        subst (Stands (d ∷ ds) u) (sym at)
        (stands-after d ds u (index_in ds u) (ltb-true d.device.uid u is)
        (rest (subst (λ i. has_at i u (d ∷ ds) ≡ true) at h)))
    by_test false is rest =
        let at = index_first d ds u is in
        subst (Stands (d ∷ ds) u) (sym at) (stands-first d ds u (subst (λ i. has_at i u (d ∷ ds) ≡ true) at h))

pub found_at : (ds : List SceneDevice) (u i : ℕ) → i ≡ index_in ds u → has_at i u ds ≡ true → (i < length ds)
    × IsFoundAt i u ds
found_at ds u i at h =
    let s = stands ds u (subst (λ n. has_at n u ds ≡ true) at h) in
    let within : i < length ds = subst (λ n. n < length ds) (sym at) s.within in
    (within, record { is_index = at; there = h; found = s.found ∙ ap (slice_get ds) (sym at) })

pub is_there : (ds : List SceneDevice) (u i : ℕ) → i ≡ index_in ds u → has_at i u ds ≡ true
    → has (uids_of_scene ds) u ≡ true
is_there ds u i at h = (stands ds u (subst (λ n. has_at n u ds ≡ true) at h)).there

-- the device that doesn't isn't there
record IsAbsent (ds : List SceneDevice) (u : ℕ) : Type 0 where
  none : find_device ds u ≡ None
  not_there : has (uids_of_scene ds) u ≡ false

absent-above : (ds : List SceneDevice) (u : ℕ) → AllByRecursion (λ v. u < v) (uids_of_scene ds) → IsAbsent ds u
absent-above [] u all = record { none = refl; not_there = refl }
absent-above (d ∷ ds) u all =
    let rest = absent-above ds u all.1 in
    let above : u < d.device.uid = all.0 in
    record {
      none = rw (ne_eqb d.device.uid u (omega arith)) rest.none;
      not_there = rw (ne_eqb u d.device.uid (omega arith)) rest.not_there;
    }

absent : (ds : List SceneDevice) (u : ℕ) → IsAscending (uids_of_scene ds) → has_at (index_in ds u) u ds ≡ false
    → IsAbsent ds u
absent [] u a h = record { none = refl; not_there = refl }
absent (d ∷ ds) u a h = by_test (nat_lt d.device.uid u) refl (absent ds u a.1)
  where
    by_test : (t : Bool) → nat_lt d.device.uid u ≡ t → (has_at (index_in ds u) u ds ≡ false → IsAbsent ds u)
        → IsAbsent (d ∷ ds) u
    by_test true is rest =
        let below : d.device.uid < u = ltb-true d.device.uid u is in
        let later = rest (subst (λ i. has_at i u (d ∷ ds) ≡ false) (index_after d ds u is) h) in
        record {
          none = rw (ne_eqb d.device.uid u (omega arith)) later.none;
          not_there = rw (ne_eqb u d.device.uid (omega arith)) later.not_there;
        }
    by_test false is rest =
        let other : (d.device.uid == u) ≡ false = subst (λ i. has_at i u (d ∷ ds) ≡ false) (index_first d ds u is) h in
        let at_least : u ≤ d.device.uid = ltb-false d.device.uid u is in
        let differs : d.device.uid ≢ u = eqb-false d.device.uid u other in
        let above : u < d.device.uid = grind (arith, differs) in
        absent-above (d ∷ ds) u (above, above_more u d.device.uid (uids_of_scene ds) above a.0)

pub none_at : (ds : List SceneDevice) (u i : ℕ) → IsScene ds → i ≡ index_in ds u → has_at i u ds ≡ false
    → find_device ds u ≡ None
none_at ds u i scene at h = (absent ds u scene.uids.ascending (subst (λ n. has_at n u ds ≡ false) at h)).none

pub not_there_at : (ds : List SceneDevice) (u i : ℕ) → IsScene ds → i ≡ index_in ds u → has_at i u ds ≡ false
    → has (uids_of_scene ds) u ≡ false
not_there_at ds u i scene at h = (absent ds u scene.uids.ascending (subst (λ n. has_at n u ds ≡ false) at h)).not_there

-- one more device
inserted : (d : SceneDevice) (ds : List SceneDevice) → insert ds (index_in ds d.device.uid) d ≡ with_scene_device d ds
inserted d [] = refl
inserted d (e ∷ es) = by_test (nat_lt e.device.uid d.device.uid) refl (inserted d es)
  where
    by_test : (t : Bool) → nat_lt e.device.uid d.device.uid ≡ t
        → insert es (index_in es d.device.uid) d ≡ with_scene_device d es
        → insert (e ∷ es) (index_in (e ∷ es) d.device.uid) d ≡ cond t (e ∷ with_scene_device d es) (d ∷ e ∷ es)
    by_test true is rest = rw (index_after e es d.device.uid is) (ap (λ l. e ∷ l) rest)
    by_test false is rest = rw (index_first e es d.device.uid is) refl

pub insert_is : (d : SceneDevice) (ds : List SceneDevice) (i : ℕ) → i ≡ index_in ds d.device.uid
    → insert ds i d ≡ with_scene_device d ds
insert_is d ds i at = rw at (inserted d ds)

uids-with : (d : SceneDevice) (ds : List SceneDevice) → has_at (index_in ds d.device.uid) d.device.uid ds ≡ false
    → uids_of_scene (with_scene_device d ds) ≡ with_uid d.device.uid (uids_of_scene ds)
uids-with d [] h = refl
uids-with d (e ∷ es) h = by_test (nat_lt e.device.uid d.device.uid) refl (uids-with d es)
  where
    by_test : (t : Bool) → nat_lt e.device.uid d.device.uid ≡ t
        → (has_at (index_in es d.device.uid) d.device.uid es ≡ false
        → uids_of_scene (with_scene_device d es) ≡ with_uid d.device.uid (uids_of_scene es))
        → uids_of_scene (cond t (e ∷ with_scene_device d es) (d ∷ e ∷ es))
        ≡ with_uid d.device.uid (uids_of_scene (e ∷ es))
    by_test true is rest =
        let below : e.device.uid < d.device.uid = ltb-true e.device.uid d.device.uid is in
        rw (le-ltb d.device.uid e.device.uid (omega arith), ne_eqb d.device.uid e.device.uid (omega arith))
        (ap (λ l. e.device.uid ∷ l)
        (rest (subst (λ i. has_at i d.device.uid (e ∷ es) ≡ false) (index_after e es d.device.uid is) h)))
    by_test false is rest =
        let other : (e.device.uid == d.device.uid)
        ≡ false = subst (λ i. has_at i d.device.uid (e ∷ es) ≡ false) (index_first e es d.device.uid is) h in
        let at_least : d.device.uid ≤ e.device.uid = ltb-false e.device.uid d.device.uid is in
        let differs : e.device.uid ≢ d.device.uid = eqb-false e.device.uid d.device.uid other in
        let above : d.device.uid < e.device.uid = grind (arith, differs) in
        rw (lt-ltb d.device.uid e.device.uid above) refl

length-with : (d : SceneDevice) (ds : List SceneDevice) → length (with_scene_device d ds) ≡ suc (length ds)
length-with d [] = refl
length-with d (e ∷ es) = by_test (nat_lt e.device.uid d.device.uid) (length-with d es)
  where
    by_test : (t : Bool) → length (with_scene_device d es) ≡ suc (length es)
        → length (cond t (e ∷ with_scene_device d es) (d ∷ e ∷ es)) ≡ suc (suc (length es))
    by_test true rest = ap suc rest
    by_test false rest = refl

all-with : (P : SceneDevice → Type 0) (d : SceneDevice) (ds : List SceneDevice) → P d → AllByRecursion P ds
    → AllByRecursion P (with_scene_device d ds)
all-with P d [] p all = (p, tt)
all-with P d (e ∷ es) p all = by_test (nat_lt e.device.uid d.device.uid) (all-with P d es p all.1)
  where
    by_test : (t : Bool) → AllByRecursion P (with_scene_device d es)
        → AllByRecursion P (cond t (e ∷ with_scene_device d es) (d ∷ e ∷ es))
    by_test true rest = (all.0, rest)
    by_test false rest = (p, all)

scene-with : (d : SceneDevice) (ds : List SceneDevice) (i : ℕ) → IsScene ds → IsDevice d.device.uid → IsSceneDevice d
    → IsFreeAt i d.device.uid ds
    → length ds < 1024 → IsScene (with_scene_device d ds)
scene-with d ds i scene own is free few = record {
  uids = rw (uids-with d ds (subst (λ n. has_at n d.device.uid ds ≡ false) free.is_index free.free))
      (devices-with_uid d.device.uid (uids_of_scene ds) own scene.uids);
  few = let size = length-with d ds in omega arith;
  each = all-with IsSceneDevice d ds is scene.each;
}

-- the devices after that one more was inserted, or was not
pub scene-inserted : (t : Bool) (d : SceneDevice) (ds new : List SceneDevice) (i : ℕ) → new ≡ cond t (insert ds i d) ds
    → IsScene ds → IsDevice d.device.uid → IsSceneDevice d
    → IsFreeAt i d.device.uid ds → length ds < 1024 → IsScene new
scene-inserted true d ds new i is scene own of_scene free few =
    rw (is, insert_is d ds i free.is_index) (scene-with d ds i scene own of_scene free few)
scene-inserted false d ds new i is scene own of_scene free few = rw is scene

pub inserted_ok : (t : Bool) (d : SceneDevice) (ds new : List SceneDevice) (i : ℕ) → t ≡ true
    → new ≡ cond t (insert ds i d) ds → IsFreeAt i d.device.uid ds → new ≡ with_scene_device d ds
inserted_ok t d ds new i ok is free = is ∙ ap (λ b. cond b (insert ds i d) ds) ok ∙ insert_is d ds i free.is_index

-- a device that is found was asked for a parameter
pub sent_at : (ds : List SceneDevice) (u pid i : ℕ) (d : SceneDevice) (ps : List ParameterState) → IsFoundAt i u ds
    → d ≡ get_or ds i d → ps ≡ sent_of pid d.params
    → set ds i (with_params d ps) ≡ sent_by u pid ds
sent_at ds u pid i d ps at is sent =
    let s = stands ds u (subst (λ n. has_at n u ds ≡ true) at.is_index at.there) in
    ap (λ qs. set ds i (with_params d qs)) sent ∙ ap (λ e. set ds i (with_params e (sent_of pid e.params))) is
    ∙ ap (λ n. set ds n (with_params (get_or ds n d) (sent_of pid (get_or ds n d).params))) at.is_index
    ∙ sym (s.sent pid d)

pub sent_to_nobody : (ds : List SceneDevice) (u pid : ℕ) → find_device ds u ≡ None → sent_by u pid ds ≡ ds
sent_to_nobody [] u pid h = refl
sent_to_nobody (d ∷ ds) u pid h = by_test (d.device.uid == u) refl (sent_to_nobody ds u pid)
  where
    by_test : (t : Bool) → (d.device.uid == u) ≡ t → (find_device ds u ≡ None → sent_by u pid ds ≡ ds)
        → cond t (with_params d (sent_of pid d.params) ∷ ds) (d ∷ sent_by u pid ds) ≡ d ∷ ds
    by_test true is rest =
        absurd (let wrong : cond true (Some d) (find_device ds u)
        ≡ None = subst (λ t. cond t (Some d) (find_device ds u) ≡ None) is h in let never : ⊥ = cc in never)
    by_test false is rest = ap (λ l. d ∷ l) (rest (subst (λ t. cond t (Some d) (find_device ds u) ≡ None) is h))

-- what doesn't speak of parameters stays when a part was sent
pub uids-sent : (u pid : ℕ) (ds : List SceneDevice) → uids_of_scene (sent_by u pid ds) ≡ uids_of_scene ds
uids-sent u pid [] = refl
uids-sent u pid (d ∷ ds) = by_test (d.device.uid == u) (uids-sent u pid ds)
  where
    by_test : (t : Bool) → uids_of_scene (sent_by u pid ds) ≡ uids_of_scene ds
        → uids_of_scene (cond t (with_params d (sent_of pid d.params) ∷ ds) (d ∷ sent_by u pid ds))
        ≡ d.device.uid ∷ uids_of_scene ds
    by_test true rest = refl
    by_test false rest = ap (λ l. d.device.uid ∷ l) rest

length-sent : (u pid : ℕ) (ds : List SceneDevice) → length (sent_by u pid ds) ≡ length ds
length-sent u pid [] = refl
length-sent u pid (d ∷ ds) = by_test (d.device.uid == u) (length-sent u pid ds)
  where
    by_test : (t : Bool) → length (sent_by u pid ds) ≡ length ds
        → length (cond t (with_params d (sent_of pid d.params) ∷ ds) (d ∷ sent_by u pid ds)) ≡ suc (length ds)
    by_test true rest = refl
    by_test false rest = ap suc rest

pub all-sent : (P : SceneDevice → Type 0) → ((d : SceneDevice) (ps : List ParameterState) → P d → P (with_params d ps))
    → (u pid : ℕ) (ds : List SceneDevice)
    → AllByRecursion P ds → AllByRecursion P (sent_by u pid ds)
all-sent P any u pid [] all = tt
all-sent P any u pid (d ∷ ds) all = by_test (d.device.uid == u) (all-sent P any u pid ds all.1)
  where
    by_test : (t : Bool) → AllByRecursion P (sent_by u pid ds)
        → AllByRecursion P (cond t (with_params d (sent_of pid d.params) ∷ ds) (d ∷ sent_by u pid ds))
    by_test true rest = (any d (sent_of pid d.params) all.0, all.1)
    by_test false rest = (all.0, rest)

pub scene-sent : (u pid : ℕ) (ds : List SceneDevice) → IsScene ds → IsScene (sent_by u pid ds)
scene-sent u pid ds scene = record {
  uids = rw (uids-sent u pid ds) scene.uids;
  few = rw (length-sent u pid ds) scene.few;
  each = all-sent IsSceneDevice (λ d ps is. record { preamble = is.preamble; from = is.from }) u pid ds scene.each;
}

-- the parameter of the device that is found
pub parameter_found : (ds : List SceneDevice) (u pid i : ℕ) (d : SceneDevice) → i < length ds → IsFoundAt i u ds
    → d ≡ get_or ds i d → parameter_at u pid ds ≡ parameter_of pid d.params
parameter_found ds u pid i d lt at is =
    ap (option_and_then (λ (e : SceneDevice). parameter_of pid e.params))
    (at.found ∙ slice_get-get_or ds i d lt ∙ ap Some (sym is))

pub answers_found : (ds : List SceneDevice) (u pid i : ℕ) (d : SceneDevice) (answer : Option (ArrayVec ℕ × AckType))
    → i < length ds → IsFoundAt i u ds → d ≡ get_or ds i d
    → AnswersPart (parameter_of pid d.params) answer → AnswersPart (parameter_at u pid ds) answer
answers_found ds u pid i d answer lt at is part =
    subst (λ o. AnswersPart o answer) (sym (parameter_found ds u pid i d lt at is)) part
