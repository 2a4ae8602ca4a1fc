-- Devices of a scene file, one after another.
use Rattle.std.proofs.Common.{◌≡◌, ℕ, suc, ◌+◌, ◌<◌, ◌≤◌, Bool, true, false, cond, List, [], ◌∷◌, ◌++◌, length, take}
use Rattle.std.proofs.Common.{get_or, Option, Some, refl, sym, ap, ◌∙◌, subst, true≢false, arith}
use Rattle.std.specs.Prelude.{◌==◌, ◌||◌, nat_lt, codes}
use Rattle.std.proofs.lemmas.Grind.{fold-append}
use Rattle.std.proofs.lemmas.List.{map-append}
use Rattle.std.proofs.lemmas.List.Folds.{list_any-append}
use Rattle.std.proofs.lemmas.Bool.{eqb-true, eqb-false, or_parts}
use Rattle.serde_json.specs.Data.{Data}
use Rattle.serde_json.specs.Find.{as_array}
use Rattle.serde_json.specs.View.{view, items_view}
use Rattle.serde_json.specs.declared.value.Value.{Value}
use Rattle.rdm_wire.specs.Uid.{has}
use Rattle.rdm_line.specs.Scenes.{uids_of_scene, with_scene_device}
use Rattle.rdm_line.specs.declared.scene.SceneDevice.{SceneDevice}
use Rattle.rdm_files.specs.Forms.{Each, IsWhole, IsOwnUid, MayHave, MayGive}
use Rattle.rdm_files.specs.SceneFiles.{IsDeviceOf, AreDevices, AllDiffer, in_uid_order, leaves_first}
use Rattle.rdm_files.specs.body.Elements.{IsAdded}
use Rattle.rdm_files.proofs.FormLemmas.{one_has, one_may_have, one_may_give, one_whole, one_own_uid, each_next}
use Rattle.rdm_files.proofs.FormLemmas.{list_of, list_many, cut_at, listed_items}

-- a value says when its device comes and leaves
pub leaves : (d : Data) (device : SceneDevice) (from : ℕ) (until : Option ℕ) → IsDeviceOf d device
    → MayHave (codes "from") (IsWhole 0 1000000000) 0 d from → MayGive (codes "until") (IsWhole 1 1000000000) d until
    → true ≡ leaves_first from until → ⊥
leaves d device from until h f u first =
    let came : from
    ≡ device.from =
    one_may_have (codes "from") (IsWhole 0 1000000000) 0 (one_whole 0 1000000000) d from device.from f h.from in
    let left : until
    ≡ device.until =
    one_may_give (codes "until") (IsWhole 1 1000000000) (one_whole 1 1000000000) d until device.until u
    h.until in
    true≢false (first ∙ ap (λ n. leaves_first n until) came ∙ ap (leaves_first device.from) left ∙ h.comes_first)

-- and its UID
pub one_device : (d : Data) (a b : SceneDevice) → IsDeviceOf d a → IsDeviceOf d b → a.device.uid ≡ b.device.uid
one_device d a b p q = one_has (codes "uid") IsOwnUid one_own_uid d a.device.uid b.device.uid p.uid q.uid

-- one more device, in the order of UIDs
in_uid_order-more : (xs : List SceneDevice) (x : SceneDevice)
    → in_uid_order (xs ++ x ∷ []) ≡ with_scene_device x (in_uid_order xs)
in_uid_order-more xs x = fold-append (λ ordered d. with_scene_device d ordered) [] xs (x ∷ [])

swap : (a b c : Bool) → (a || (b || c)) ≡ (b || (a || c))
swap true true c = refl
swap true false c = refl
swap false b c = refl

has-with : (x : SceneDevice) (ds : List SceneDevice) (u : ℕ)
    → has (uids_of_scene (with_scene_device x ds)) u ≡ ((u == x.device.uid) || has (uids_of_scene ds) u)
has-with x [] u = refl
has-with x (d ∷ ds) u = by_test (nat_lt d.device.uid x.device.uid) (has-with x ds u)
  where
    by_test : (t : Bool)
        → has (uids_of_scene (with_scene_device x ds)) u ≡ ((u == x.device.uid) || has (uids_of_scene ds) u)
        → has (uids_of_scene (cond t (d ∷ with_scene_device x ds) (x ∷ d ∷ ds))) u
        ≡ ((u == x.device.uid) || ((u == d.device.uid) || has (uids_of_scene ds) u))
    by_test true rest =
        ap (λ b. (u == d.device.uid) || b) rest
        ∙ swap (u == d.device.uid) (u == x.device.uid) (has (uids_of_scene ds) u)
    by_test false rest = refl

length-with : (x : SceneDevice) (ds : List SceneDevice) → length (with_scene_device x ds) ≡ length ds + 1
length-with x [] = refl
length-with x (d ∷ ds) = by_test (nat_lt d.device.uid x.device.uid) (length-with x ds)
  where
    by_test : (t : Bool) → length (with_scene_device x ds) ≡ length ds + 1
        → length (cond t (d ∷ with_scene_device x ds) (x ∷ d ∷ ds)) ≡ suc (length ds) + 1
    by_test true rest = omega (arith, rest)
    by_test false rest = omega arith

-- a test of two numbers
eq-sym : (a b : ℕ) → (a == b) ≡ (b == a)
eq-sym a b = by_test (a == b) (b == a) refl refl
  where
    by_test : (s t : Bool) → (a == b) ≡ s → (b == a) ≡ t → s ≡ t
    by_test true true p q = refl
    by_test false false p q = refl
    by_test true false p q = absurd (eqb-false b a q (sym (eqb-true a b p)))
    by_test false true p q = absurd (eqb-false a b p (sym (eqb-true b a q)))

has-pushed : (xs : List SceneDevice) (x : SceneDevice) (u : ℕ)
    → has (uids_of_scene (xs ++ x ∷ [])) u ≡ ((u == x.device.uid) || has (uids_of_scene xs) u)
has-pushed [] x u = refl
has-pushed (y ∷ xs) x u =
    ap (λ b. (u == y.device.uid) || b) (has-pushed xs x u)
    ∙ swap (u == y.device.uid) (u == x.device.uid) (has (uids_of_scene xs) u)

-- the devices listed so far, and these ascending by UID
pub record Ordered (vs : List Value) (i : ℕ) (devices : List SceneDevice) : Type 0 where
  pub listed : List SceneDevice
  pub each : Each IsDeviceOf (items_view (take i vs)) listed
  pub differ : AllDiffer (uids_of_scene listed)
  pub ordered : devices ≡ in_uid_order listed
  pub same : (u : ℕ) → has (uids_of_scene devices) u ≡ has (uids_of_scene listed) u
  pub many : length devices ≡ i

pub none_ordered : (vs : List Value) (devices : List SceneDevice) → devices ≡ [] → Ordered vs 0 devices
none_ordered vs devices none = record {
  listed = [];
  each = tt;
  differ = tt;
  ordered = none;
  same = λ u. ap (λ ds. has (uids_of_scene ds) u) none;
  many = ap length none;
}

differ-more : (us : List ℕ) (u : ℕ) → AllDiffer us → has us u ≡ false → AllDiffer (us ++ u ∷ [])
differ-more [] u all new = (refl, tt)
differ-more (v ∷ us) u all new = (
  list_any-append (λ w. v == w) us (u ∷ []) ∙ ap (λ b. b || ((v == u) || false)) all.0
      ∙ others (v == u) (eq-sym v u ∙ (or_parts (u == v) (has us u) new).0),
  differ-more us u all.1 ((or_parts (u == v) (has us u) new).1),
)
  where
    others : (b : Bool) → b ≡ false → (b || false) ≡ false
    others b is = ap (λ c. c || false) is

pub one_ordered : (vs : List Value) (i : ℕ) (v : Value) (old new : List SceneDevice) → i < length vs → v ≡ get_or vs i v
    → Ordered vs i old → IsAdded (view v) old new → Ordered vs (i + 1) new
one_ordered vs i v old new lt is p a = record {
  listed = p.listed ++ a.device ∷ [];
  each = each_next IsDeviceOf vs p.listed i v a.device lt is p.each a.read;
  differ = subst AllDiffer (sym (map-append (λ (d : SceneDevice). d.device.uid) p.listed (a.device ∷ [])))
      (differ-more (uids_of_scene p.listed) a.device.device.uid p.differ
      (sym (p.same a.device.device.uid) ∙ a.differs));
  ordered = a.added ∙ ap (with_scene_device a.device) p.ordered ∙ sym (in_uid_order-more p.listed a.device);
  same = λ u. ap (λ ds. has (uids_of_scene ds) u) a.added ∙ has-with a.device old u
      ∙ ap (λ b. (u == a.device.device.uid) || b) (p.same u) ∙ sym (has-pushed p.listed a.device u);
  many = ap length a.added ∙ length-with a.device old ∙ ap (λ k. k + 1) p.many;
}

-- at the end
pub all_ordered : (d : Data) (vs : List Value) (i : ℕ) (devices : List SceneDevice) → Some (items_view vs) ≡ as_array d
    → length vs ≡ i → length vs ≤ 1024 → Ordered vs i devices → AreDevices d devices
all_ordered d vs i devices is all few p = record {
  listed = p.listed;
  list = list_of IsDeviceOf 0 1024 d vs i p.listed is all (omega arith) few p.each;
  differ = p.differ;
  ordered = p.ordered;
}

-- the devices of the same values have the same UIDs
same_uids : (vs : List Value) (xs ys : List SceneDevice) → Each IsDeviceOf (items_view vs) xs
    → Each IsDeviceOf (items_view vs) ys → uids_of_scene xs ≡ uids_of_scene ys
same_uids [] [] [] a b = refl
same_uids [] [] (y ∷ ys) a b = absurd b
same_uids [] (x ∷ xs) ys a b = absurd a
same_uids (v ∷ vs) [] ys a b = absurd a
same_uids (v ∷ vs) (x ∷ xs) [] a b = absurd b
same_uids (v ∷ vs) (x ∷ xs) (y ∷ ys) a b =
    ap (λ u. u ∷ uids_of_scene xs) (one_device (view v) x y a.0 b.0)
    ∙ ap (λ us. y.device.uid ∷ us) (same_uids vs xs ys a.1 b.1)

differ-before : (us : List ℕ) (u : ℕ) (ws : List ℕ) → AllDiffer (us ++ u ∷ ws) → has us u ≡ false
differ-before [] u ws all = refl
differ-before (v ∷ us) u ws all =
    let later = (or_parts (has us v) _ (sym (list_any-append (λ w. v == w) us (u ∷ ws)) ∙ all.0)).1 in
    let other : (v == u) ≡ false = (or_parts (v == u) (has ws v) later).0 in
    ap (λ b. b || has us u) (eq-sym u v ∙ other) ∙ differ-before us u ws all.1

-- a device that can't be added makes a list that says nothing
pub none_listed : (d : Data) (vs : List Value) (i : ℕ) (v : Value) (old : List SceneDevice)
    → Some (items_view vs) ≡ as_array d → i < length vs → length vs ≤ 1024 → v ≡ get_or vs i v → Ordered vs i old
    → ((x : SceneDevice) → IsDeviceOf (view v) x → has (uids_of_scene old) x.device.uid ≡ false → length old ≡ 1024)
    → (devices : List SceneDevice) → AreDevices d devices → ⊥
none_listed d vs i v old is lt few at p refused devices h =
    let cut = cut_at IsDeviceOf vs h.listed i v lt at (listed_items IsDeviceOf 0 1024 d vs h.listed is h.list) in
    let differ : AllDiffer (uids_of_scene cut.front ++ cut.here.device.uid ∷ uids_of_scene cut.back) =
    subst AllDiffer (ap uids_of_scene cut.whole ∙ map-append (λ (e : SceneDevice). e.device.uid) cut.front
    (cut.here ∷ cut.back)) h.differ in
    let new : has (uids_of_scene old) cut.here.device.uid ≡ false =
    p.same cut.here.device.uid ∙ ap (λ us. has us cut.here.device.uid)
    (same_uids (take i vs) p.listed cut.front p.each cut.each)
    ∙ differ-before (uids_of_scene cut.front) cut.here.device.uid (uids_of_scene cut.back) differ in
    let full : length old ≡ 1024 = refused cut.here cut.says new in
    omega (arith, full, p.many, lt, few)

-- a list that is too long says nothing
pub too_many : (d : Data) (vs : List Value) → Some (items_view vs) ≡ as_array d → 1024 < length vs
    → (devices : List SceneDevice) → AreDevices d devices → ⊥
too_many d vs is long devices h =
    let many = list_many IsDeviceOf 0 1024 d vs is h.listed h.list in
    let most : length h.listed ≤ 1024 = h.list.at_most in
    omega (arith, many, most, long)
