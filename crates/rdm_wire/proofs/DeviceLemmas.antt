-- Devices that ascend by UID: where a UID stands among them, and the set with one more.
use Rattle.std.proofs.Common.{◌≡◌, ℕ, zero, suc, ◌<◌, ◌≤◌, Bool, true, false, cond, List, [], ◌∷◌, length, get_or, Some}
use Rattle.std.proofs.Common.{None, Result, Ok, Err, OnOk, OnErr, IfOk, IfErr, slice_get, refl, sym, ap, ◌∙◌, subst}
use Rattle.std.proofs.Common.{inl, inr, true≢false, arith}
use Rattle.std.specs.Prelude.{◌==◌, ◌||◌, nat_lt}
use Rattle.std.specs.List.{insert}
use Rattle.std.specs.List.Sorted.{IsSearchInRange, IsBinarySearchResult, IsNonDecreasingBy}
use Rattle.std.specs.Ordering.{nat_cmp, ordering_index}
use Rattle.std.proofs.lemmas.List.{length-map, get_or-map}
use Rattle.std.proofs.lemmas.List.Sorted.{searched}
use Rattle.std.proofs.lemmas.Bool.{cases_order, ne_eqb, eq-eqb, lt-ltb, le-ltb}
use Rattle.rdm_wire.specs.Uid.{has, IsAscending, with_uid}
use Rattle.rdm_wire.specs.Devices.{uids_of, device_with, with_device}
use Rattle.rdm_wire.specs.declared.device.Device.{Device}
use Rattle.rdm_wire.proofs.SetLemmas.{IsInsertionIndex, insertion-rest, above-at, ascending-at}
use Rattle.rdm_wire.proofs.SetLemmas.{has-at_insertion, insertion-before}
use Rattle.rdm_wire.proofs.SetLemmas.{search-there, search-absent}

abbrev no_device : Device
no_device = record { uid = 0; control = 0; binding = None }

uid_at : (ds : List Device) (i : ℕ) (v : ℕ) → i < length ds → get_or (uids_of ds) i v ≡ (get_or ds i no_device).uid
uid_at ds i v lt = get_or-map (λ d. d.uid) ds i no_device v lt

-- a search of the devices by UID is a search of their UIDs
search-uids : (ds : List Device) (u : ℕ) (r : Result ℕ ℕ) → IsSearchInRange r (length ds)
    → IsBinarySearchResult (λ d. nat_cmp d.uid u) ds r → IsBinarySearchResult (λ v. nat_cmp v u) (uids_of ds) r
search-uids ds u (Ok i) p h = λ v. rw (uid_at ds i v p) (h no_device)
search-uids ds u (Err i) p h = λ up.
    let long : length (uids_of ds) ≡ length ds = length-map ds (λ d. d.uid) in
    let rises : IsNonDecreasingBy (λ d. ordering_index (nat_cmp d.uid u)) ds = λ a b d le lt.
    rw (← get_or-map (λ e. e.uid) ds a d 0 (omega arith), ← get_or-map (λ e. e.uid) ds b d 0 lt)
    (up a b 0 le (omega arith)) in
    let parted = h rises in (
      (λ k v le lt. let at : k < length ds = omega (arith, p) in rw (uid_at ds k v at) (parted.0 k no_device le lt)),
      (λ k v le lt. let at : k < length ds = omega arith in rw (uid_at ds k v at) (parted.1 k no_device le at)),
    )

pub device-there : (ds : List Device) (u i : ℕ) → IsSearchInRange (Ok i) (length ds)
    → IsBinarySearchResult (λ d. nat_cmp d.uid u) ds (Ok i)
    → IsAscending (uids_of ds) → has (uids_of ds) u ≡ true
device-there ds u i p found a = search-there (uids_of ds) u i (search-uids ds u (Ok i) p found) a

pub device-absent : (ds : List Device) (u i : ℕ) → IsSearchInRange (Err i) (length ds)
    → IsBinarySearchResult (λ d. nat_cmp d.uid u) ds (Err i)
    → IsAscending (uids_of ds) → IsInsertionIndex (uids_of ds) u i
device-absent ds u i p found a = search-absent (uids_of ds) u i (search-uids ds u (Err i) p found) a

-- the device at u's index is the one with u
device_at : (ds : List Device) (u i : ℕ) → IsAscending (uids_of ds) → i < length ds → (get_or ds i no_device).uid ≡ u
    → slice_get ds i ≡ device_with ds u
device_at [] u i a lt same = absurd (omega arith)
device_at (d ∷ ds) u zero a lt same = rw (eq-eqb u d.uid (sym same)) refl
device_at (d ∷ ds) u (suc i) a lt same =
    let at : i < length ds = omega arith in
    let long : length (uids_of ds) ≡ length ds = length-map ds (λ d. d.uid) in
    let above : d.uid < get_or (uids_of ds) i 0 = above-at d.uid (uids_of ds) i a.0 (omega arith) in
    let is : get_or (uids_of ds) i 0 ≡ u = uid_at ds i 0 at ∙ same in
    rw (ne_eqb u d.uid (omega arith)) (device_at ds u i a.1 at same)

pub device-found : (ds : List Device) (u i : ℕ) → IsSearchInRange (Ok i) (length ds)
    → IsBinarySearchResult (λ d. nat_cmp d.uid u) ds (Ok i)
    → IsAscending (uids_of ds) → slice_get ds i ≡ device_with ds u
device-found ds u i p found a =
    let at : (i < length (uids_of ds))
    × (get_or (uids_of ds) i 0 ≡ u) =
    searched (uids_of ds) u (Ok i) (search-uids ds u (Ok i) p found) (ascending-at (uids_of ds) a) in
    device_at ds u i a p (sym (uid_at ds i 0 p) ∙ at.1)

-- no device has a UID that isn't among theirs
pub no-device_with : (ds : List Device) (u : ℕ) → has (uids_of ds) u ≡ false → device_with ds u ≡ None
no-device_with [] u h = refl
no-device_with (d ∷ ds) u h = by_test (u == d.uid) (no-device_with ds u) h
  where
    by_test : (b : Bool) → (has (uids_of ds) u ≡ false → device_with ds u ≡ None) → b || has (uids_of ds) u ≡ false
        → cond b (Some d) (device_with ds u) ≡ None
    by_test true rest h = absurd (true≢false h)
    by_test false rest h = rest h

-- the set with one more is the list with it at its index
pub with_device-insert : (d : Device) (ds : List Device) (i : ℕ) → IsInsertionIndex (uids_of ds) d.uid i
    → with_device d ds ≡ insert ds i d
with_device-insert d [] zero insertion = refl
with_device-insert d [] (suc i) insertion = let p : suc i ≤ 0 = insertion.within in absurd (omega arith)
with_device-insert d (e ∷ ds) zero insertion =
    let p : d.uid < e.uid = insertion.above 0 (omega arith) (omega arith) in rw (lt-ltb d.uid e.uid p) refl
with_device-insert d (e ∷ ds) (suc i) insertion =
    let p : e.uid < d.uid = insertion.below 0 (omega arith) in
    rw (le-ltb d.uid e.uid (omega arith), ne_eqb d.uid e.uid (omega arith))
    (ap (λ l. e ∷ l) (with_device-insert d ds i (insertion-rest d.uid e.uid (uids_of ds) i insertion)))

-- its UIDs are the UIDs with one more
pub uids_of-with_device : (d : Device) (ds : List Device) → uids_of (with_device d ds) ≡ with_uid d.uid (uids_of ds)
uids_of-with_device d [] = refl
uids_of-with_device d (e ∷ ds) = by_test (nat_lt d.uid e.uid) (d.uid == e.uid) (uids_of-with_device d ds)
  where
    by_test : (b c : Bool) → uids_of (with_device d ds) ≡ with_uid d.uid (uids_of ds)
        → uids_of (cond b (d ∷ e ∷ ds) (cond c (e ∷ ds) (e ∷ with_device d ds)))
        ≡ cond b (d.uid ∷ e.uid ∷ uids_of ds) (cond c (e.uid ∷ uids_of ds) (e.uid ∷ with_uid d.uid (uids_of ds)))
    by_test true c rest = refl
    by_test false true rest = refl
    by_test false false rest = ap (λ us. e.uid ∷ us) rest

-- a device that is there changes nothing
pub with_device-present : (d : Device) (ds : List Device) → IsAscending (uids_of ds) → has (uids_of ds) d.uid ≡ true
    → with_device d ds ≡ ds
with_device-present d [] a h = absurd (true≢false (sym h))
with_device-present d (e ∷ ds) a h =
    elim (cases_order d.uid e.uid) [
      | inl same ↦ rw (le-ltb d.uid e.uid (omega arith), eq-eqb d.uid e.uid same) refl
      | inr (inl less)
          ↦ absurd (true≢false
          (sym h ∙ has-at_insertion d.uid (e.uid ∷ uids_of ds) zero (insertion-before d.uid e.uid (uids_of ds) a less)))
      | inr (inr more) ↦ rw (le-ltb d.uid e.uid (omega arith), ne_eqb d.uid e.uid (omega arith))
          (ap (λ l. e ∷ l) (with_device-present d ds a.1 (rw (ne_eqb d.uid e.uid (omega arith)) at h)))
    ]

-- what a search by UID says
pub record Searched (ds : List Device) (u : ℕ) (r : Result ℕ ℕ) : Type 0 where
  pub there : OnOk r (has (uids_of ds) u ≡ true)
  pub found : IfOk r (λ i. slice_get ds i ≡ device_with ds u)
  pub absent : OnErr r (has (uids_of ds) u ≡ false)
  pub none : OnErr r (device_with ds u ≡ None)
  pub index : IfErr r (λ i. (i ≤ length ds) × ((d : Device) → d.uid ≡ u → with_device d ds ≡ insert ds i d))

pub searched-device : (ds : List Device) (u : ℕ) (r : Result ℕ ℕ) → IsSearchInRange r (length ds)
    → IsBinarySearchResult (λ d. nat_cmp d.uid u) ds r
    → IsAscending (uids_of ds) → Searched ds u r
searched-device ds u (Ok i) p found a = record {
  there = device-there ds u i p found a;
  found = device-found ds u i p found a;
  absent = tt;
  none = tt;
  index = tt;
}
searched-device ds u (Err i) p found a =
    let insertion = device-absent ds u i p found a in
    record {
      there = tt;
      found = tt;
      absent = has-at_insertion u (uids_of ds) i insertion;
      none = no-device_with ds u (has-at_insertion u (uids_of ds) i insertion);
      index = (
        p,
        λ d same. with_device-insert d ds i
            (subst (λ v. IsInsertionIndex (uids_of ds) v i) (sym same) insertion),
      );
    }
