-- Runs on a noisy line, and on an honest one.
use Rattle.rdm_agent.proofs.Common.{◌≡◌, ℕ, true, List, [], ◌∷◌, take, None, sym, ap, ◌∙◌, subst, MatchOption, has}
use Rattle.rdm_agent.proofs.Common.{IsDevice, IsDeviceSet, MOST_DEVICES, once, Seen, HonestOver, acked_in, Certificate}
use Rattle.rdm_agent.proofs.Common.{Cause, AgentState, Runs, start_by, next_of, fault_of, found_uids, Kind, Search}
use Rattle.rdm_agent.specs.Statements.{FindsAll, FindsEach, FindsNoPhantom, FindsStaying, FindsNoStranger}
use Rattle.rdm_agent.specs.Statements.{FindsAllInNoise, FindsEachInNoise, FindsNoPhantomInNoise}
use Rattle.rdm_wire.proofs.NoisyLemmas.{honest_is_noisy, honest_to_is_noisy}
use Rattle.rdm_agent.proofs.OneDevice.{found_in_noise}
use Rattle.rdm_agent.proofs.Honest.{devices_in_noise, no_phantom_in_noise}
use Rattle.rdm_agent.proofs.ChangingDevices.{honest_over_to_each, no_stranger, staying_device}
use Rattle.rdm_agent.proofs.Sets.{has-set_of, has-once, has-take}
use Rattle.rdm_agent.proofs.Runs.{stands_by, ends_certified_by, ends_at_failure_by}

-- a run without fault has its certificate
certificate : (search : Search) (kind : Kind) (known : List ℕ) (budget : ℕ) (x : List Seen) (b : AgentState)
    → IsDeviceSet known → Runs (start_by search kind known budget) x b → next_of b ≡ None → fault_of b.phase ≡ None
    → Certificate kind known x b.found
certificate search kind known budget x b set run end fault =
    subst (λ f. MatchOption f (Certificate kind known x b.found) (λ g. Cause search budget ⊥ g x)) fault
    (ends_certified_by search kind known budget x b set run end).0

-- on a noisy line that is the devices
pub finds_all_in_noise_by : (search : Search) → FindsAllInNoise search
finds_all_in_noise_by search kind known budget x b set run present end fault noisy =
    devices_in_noise kind known x (found_uids b) present
    (certificate search kind known budget x b set run end fault).search noisy

pub finds_all_by : (search : Search) → FindsAll search
finds_all_by search kind known budget x b set run present end fault honest =
    finds_all_in_noise_by search kind known budget x b set run present end fault (honest_is_noisy present x honest)

-- and it has each device that follows the rules
pub finds_each_in_noise_by : (search : Search) → FindsEachInNoise search
finds_each_in_noise_by search kind known budget x b set run u end fault device noisy =
    found_in_noise kind known x (found_uids b) u device
    (certificate search kind known budget x b set run end fault).search noisy

pub finds_each_by : (search : Search) → FindsEach search
finds_each_by search kind known budget x b set run u end fault device honest =
    finds_each_in_noise_by search kind known budget x b set run u end fault device (honest_to_is_noisy u x honest)

-- what is found is acknowledged
acked : (search : Search) (kind : Kind) (known : List ℕ) (budget : ℕ) (x : List Seen) (b : AgentState) (u : ℕ)
    → IsDeviceSet known → Runs (start_by search kind known budget) x b → has (found_uids b) u ≡ true
    → has (acked_in x) u ≡ true
acked search kind known budget x b u set run here =
    sym (has-once (acked_in x) u) ∙ has-take MOST_DEVICES (once (acked_in x)) u first
  where
    first : has (take MOST_DEVICES (once (acked_in x))) u ≡ true
    first = sym (has-set_of (take MOST_DEVICES (once (acked_in x))) u)
        ∙ ap (λ us. has us u) (sym (stands_by search kind known budget x b set run).reports) ∙ here

-- and so a device
pub finds_no_phantom_in_noise_by : (search : Search) → FindsNoPhantomInNoise search
finds_no_phantom_in_noise_by search kind known budget x b set run present u noisy here =
    no_phantom_in_noise present x u (ends_at_failure_by search kind known budget x b set run).0 noisy
    (acked search kind known budget x b u set run here)

pub finds_no_phantom_by : (search : Search) → FindsNoPhantom search
finds_no_phantom_by search kind known budget x b set run present u honest here =
    finds_no_phantom_in_noise_by search kind known budget x b set run present u (honest_is_noisy present x honest) here

-- that was present at some exchange
pub finds_no_stranger_by : (search : Search) → FindsNoStranger search
finds_no_stranger_by search kind known budget x b set run sets u honest here =
    no_stranger sets x u (ends_at_failure_by search kind known budget x b set run).0 honest
    (acked search kind known budget x b u set run here)

-- a device that stays is found
pub finds_staying_by : (search : Search) → FindsStaying search
finds_staying_by search kind known budget x b set run sets u end fault honest each =
    finds_each_by search kind known budget x b set run u end fault
    (device x (certificate search kind known budget x b set run end fault) honest)
    (honest_over_to_each sets u x each honest)
  where
    device : (y : List Seen) → Certificate kind known y b.found → HonestOver sets y → IsDevice u
    device [] c h = let begun = c.search.unmutes in cc
    device (e ∷ y) c h = staying_device sets u e y each h
