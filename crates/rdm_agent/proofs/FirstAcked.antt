-- The devices found stay as their first acknowledgements said them.
use Rattle.rdm_agent.proofs.Common.{◌≡◌, ℕ, Bool, true, false, cond, List, [], ◌∷◌, ◌++◌, Option, None, Some, refl, sym}
use Rattle.rdm_agent.proofs.Common.{ap, ◌∙◌, subst, ◌==◌, nat_lt, cons_option, eq-eqb, has, uids_of, with_device}
use Rattle.rdm_agent.proofs.Common.{Device, Asked, Heard, Seen, Unmute, Branch, Mute, Other, Failed, Silent, One, Acked}
use Rattle.rdm_agent.proofs.Common.{Noise, acked_uid, acked_in, AsFirstAcked}
use Rattle.std.proofs.lemmas.List.Elements.{filter_map-append}
use Rattle.rdm_wire.specs.Devices.{device_with}
use Rattle.rdm_wire.proofs.DeviceLemmas.{no-device_with}
use Rattle.rdm_agent.specs.Run.{acked_device, device_by, devices_in}

-- what acknowledgements say is of the UIDs that were acknowledged
same_uid : (o : Option Device) (p : Option ℕ) (ds : List Device) (us : List ℕ)
    → uids_of (cons_option o []) ≡ cons_option p [] → uids_of ds ≡ us → uids_of (cons_option o ds) ≡ cons_option p us
same_uid None None ds us here rest = rest
same_uid None (Some u) ds us here rest = cc
same_uid (Some d) None ds us here rest = cc
same_uid (Some d) (Some u) ds us here rest = cc

one_uid : (a : Asked) (h : Heard) → uids_of (cons_option (acked_device a h) []) ≡ cons_option (acked_uid a h) []
one_uid (Mute u) (Acked ack) = refl
one_uid (Mute u) Failed = refl
one_uid (Mute u) Silent = refl
one_uid (Mute u) (One v) = refl
one_uid (Mute u) Noise = refl
one_uid Unmute h = refl
one_uid (Branch lo hi) h = refl
one_uid Other h = refl

pub uids-devices_in : (x : List Seen) → uids_of (devices_in x) ≡ acked_in x
uids-devices_in [] = refl
uids-devices_in (e ∷ x) =
    same_uid (device_by e) (acked_uid e.asked e.heard) (devices_in x) (acked_in x) (one_uid e.asked e.heard)
    (uids-devices_in x)

-- the first device of a list with a UID is the first of a longer one
device_with-front : (ds es : List Device) (u : ℕ) (d : Device) → device_with ds u ≡ Some d
    → device_with (ds ++ es) u ≡ Some d
device_with-front [] es u d is = cc
device_with-front (c ∷ ds) es u d is = by_test (u == c.uid) (device_with-front ds es u d) is
  where
    by_test : (b : Bool) → (device_with ds u ≡ Some d → device_with (ds ++ es) u ≡ Some d)
        → cond b (Some c) (device_with ds u) ≡ Some d → cond b (Some c) (device_with (ds ++ es) u) ≡ Some d
    by_test true rest is = is
    by_test false rest is = rest is

device_with-last : (ds : List Device) (d : Device) → device_with ds d.uid ≡ None
    → device_with (ds ++ d ∷ []) d.uid ≡ Some d
device_with-last [] d none = rw (eq-eqb d.uid d.uid refl) refl
device_with-last (c ∷ ds) d none = by_test (d.uid == c.uid) (device_with-last ds d) none
  where
    by_test : (b : Bool) → (device_with ds d.uid ≡ None → device_with (ds ++ d ∷ []) d.uid ≡ Some d)
        → cond b (Some c) (device_with ds d.uid) ≡ None → cond b (Some c) (device_with (ds ++ d ∷ []) d.uid) ≡ Some d
    by_test true rest is = cc
    by_test false rest is = rest is

-- one more exchange changes no first acknowledgement
pub AsFirstAcked-push : (x : List Seen) (e : Seen) (s : List Device) → AsFirstAcked x s → AsFirstAcked (x ++ e ∷ []) s
AsFirstAcked-push x e [] all = tt
AsFirstAcked-push x e (d ∷ s) all = (
  subst (λ ds. device_with ds d.uid ≡ Some d) (sym (filter_map-append device_by x (e ∷ [])))
      (device_with-front (devices_in x) (devices_in (e ∷ [])) d.uid d all.0),
  AsFirstAcked-push x e s all.1,
)

-- the first acknowledgement of another device is its first one
first-acked : (x : List Seen) (e : Seen) (d : Device) → device_by e ≡ Some d → has (acked_in x) d.uid ≡ false
    → device_with (devices_in (x ++ e ∷ [])) d.uid ≡ Some d
first-acked x e d says new =
    subst (λ ds. device_with ds d.uid ≡ Some d)
    (sym (filter_map-append device_by x (e ∷ []) ∙ ap (λ o. devices_in x ++ cons_option o []) says))
    (device_with-last (devices_in x) d
    (no-device_with (devices_in x) d.uid (ap (λ us. has us d.uid) (uids-devices_in x) ∙ new)))

with_device-all : (x : List Seen) (d : Device) (s : List Device) → device_with (devices_in x) d.uid ≡ Some d
    → AsFirstAcked x s → AsFirstAcked x (with_device d s)
with_device-all x d [] first all = (first, tt)
with_device-all x d (c ∷ s) first all =
    by_test (nat_lt d.uid c.uid) (d.uid == c.uid) (with_device-all x d s first all.1)
  where
    by_test : (b same : Bool) → AsFirstAcked x (with_device d s)
        → AsFirstAcked x (cond b (d ∷ c ∷ s) (cond same (c ∷ s) (c ∷ with_device d s)))
    by_test true same rest = (first, all)
    by_test false true rest = all
    by_test false false rest = (all.0, rest)

pub AsFirstAcked-new : (x : List Seen) (e : Seen) (d : Device) (s : List Device) → device_by e ≡ Some d
    → has (acked_in x) d.uid ≡ false → AsFirstAcked x s → AsFirstAcked (x ++ e ∷ []) (with_device d s)
AsFirstAcked-new x e d s says new all =
    with_device-all (x ++ e ∷ []) d s (first-acked x e d says new) (AsFirstAcked-push x e s all)
