-- The devices that exchanges report: the acknowledged ones, each as its first acknowledgement says it.
use Rattle.rdm_log.proofs.Common.{◌≡◌, ℕ, true, false, List, [], ◌∷◌, Some, filter_map, take, refl, sym, ap, ◌∙◌}
use Rattle.rdm_log.proofs.Common.{inl, inr, ◌⊎◌, ◌==◌, AllByRecursion, cases_Bool, false≢true, eqb-true}
use Rattle.rdm_log.proofs.Common.{has, uids_of, device_with, Device, Seen}
use Rattle.rdm_log.proofs.Common.{acked_in, devices_in, IsReport, reported_devices}
use Rattle.rdm_wire.specs.Lists.{once}
use Rattle.rdm_wire.specs.declared.uid_set.TheConstants.{MOST_DEVICES}
use Rattle.rdm_agent.specs.Run.{reported}
use Rattle.rdm_agent.proofs.Sets.{each_member, has-set_of, has-once, has-take}
use Rattle.rdm_agent.proofs.FirstAcked.{uids-devices_in}

-- a reported UID was acknowledged
pub reported_acked : (x : List Seen) (u : ℕ) → has (reported x) u ≡ true → has (acked_in x) u ≡ true
reported_acked x u is =
    sym (has-once (acked_in x) u)
    ∙ has-take MOST_DEVICES (once (acked_in x)) u (sym (has-set_of (take MOST_DEVICES (once (acked_in x))) u) ∙ is)

-- the first device with a UID that is there
record IsWith (ds : List Device) (u : ℕ) : Type 0 where
  device : Device
  found : device_with ds u ≡ Some device
  uid : device.uid ≡ u

with_uid_there : (ds : List Device) (u : ℕ) → has (uids_of ds) u ≡ true → IsWith ds u
with_uid_there [] u is = absurd (false≢true is)
with_uid_there (d ∷ ds) u is = by_test (cases_Bool (u == d.uid)) (with_uid_there ds u)
  where
    by_test : ((u == d.uid) ≡ true) ⊎ ((u == d.uid) ≡ false) → (has (uids_of ds) u ≡ true → IsWith ds u)
        → IsWith (d ∷ ds) u
    by_test (inl here) later = record { device = d; found = rw here refl; uid = sym (eqb-true u d.uid here) }
    by_test (inr there) later =
        let rest = later (rw there at is) in
        record { device = rest.device; found = rw there rest.found; uid = rest.uid }

-- the devices with UIDs that are there
devices_of_uids : (ds : List Device) (us : List ℕ) → AllByRecursion (λ u. has (uids_of ds) u ≡ true) us
    → uids_of (filter_map (device_with ds) us) ≡ us
devices_of_uids ds [] all = refl
devices_of_uids ds (u ∷ us) all =
    let one = with_uid_there ds u all.0 in rw one.found (rw one.uid (ap (λ l. u ∷ l) (devices_of_uids ds us all.1)))

firsts_of_uids : (ds : List Device) (us : List ℕ) → AllByRecursion (λ u. has (uids_of ds) u ≡ true) us
    → AllByRecursion (λ d. device_with ds d.uid ≡ Some d) (filter_map (device_with ds) us)
firsts_of_uids ds [] all = tt
firsts_of_uids ds (u ∷ us) all =
    let one = with_uid_there ds u all.0 in rw one.found (rw one.uid one.found, firsts_of_uids ds us all.1)

all_there : (x : List Seen) → AllByRecursion (λ u. has (uids_of (devices_in x)) u ≡ true) (reported x)
all_there x =
    each_member (λ u. has (uids_of (devices_in x)) u ≡ true) (reported x)
    (λ u is. rw (uids-devices_in x) (reported_acked x u is))

pub reports : (x : List Seen) → IsReport x (reported_devices x)
reports x = record {
  uids = devices_of_uids (devices_in x) (reported x) (all_there x);
  first = firsts_of_uids (devices_in x) (reported x) (all_there x);
}

-- and so a device that is reported was acknowledged
pub device_acked : (x : List Seen) (u : ℕ) → has (uids_of (reported_devices x)) u ≡ true → has (acked_in x) u ≡ true
device_acked x u is = reported_acked x u (rw (reports x).uids at is)
