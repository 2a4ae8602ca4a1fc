-- A certificate on a noisy line, and on an honest one.
use Rattle.rdm_agent.proofs.Common.{◌≡◌, ℕ, true, List, ◌∙◌, sym, subst, has, IsDevice, set_of, Seen, HonestTrace}
use Rattle.rdm_agent.proofs.Common.{NoisyTrace, before_run, acked_in, FailureIsLast, SearchShows, Kind}
use Rattle.rdm_wire.proofs.EachDevice.{noisy_to_each}
use Rattle.rdm_wire.proofs.NoisyLemmas.{honest_is_noisy}
use Rattle.rdm_agent.proofs.Members.{member}
use Rattle.rdm_agent.proofs.Pushes.{All-at}
use Rattle.rdm_agent.proofs.Sets.{same_members, ascending-set_of, has-set_of}
use Rattle.rdm_agent.proofs.OneDevice.{NotFailed, found_in_noise}
use Rattle.rdm_agent.proofs.AllDevices.{present_from}

-- the set is that of the devices
pub devices_in_noise : (kind : Kind) (known : List ℕ) (x : List Seen) (s present : List ℕ) → SearchShows kind known x s
    → NoisyTrace present x → s ≡ present
devices_in_noise kind known x s present c noisy =
    c.set ∙ same_members (set_of (acked_in x)) present (ascending-set_of (acked_in x)) noisy.0.ascending
    (λ w h. present_from present (before_run noisy.1) x w
    (λ front back e whole failed. absurd (All-at NotFailed x front back e c.no_failure whole failed)) noisy.2
    (sym (has-set_of (acked_in x) w) ∙ h))
    (λ w h. subst (λ l. has l w ≡ true) c.set
    (found_in_noise kind known x s w (member IsDevice present w noisy.0.devices h) c
    (noisy_to_each present w x h noisy)))

pub devices : (kind : Kind) (known : List ℕ) (x : List Seen) (s present : List ℕ) → SearchShows kind known x s
    → HonestTrace present x → s ≡ present
devices kind known x s present c honest =
    devices_in_noise kind known x s present c (honest_is_noisy present x honest)

-- each acknowledged UID is present, where nothing stands after a failure
pub no_phantom_in_noise : (present : List ℕ) (x : List Seen) (u : ℕ) → FailureIsLast x → NoisyTrace present x
    → has (acked_in x) u ≡ true → has present u ≡ true
no_phantom_in_noise present x u ok noisy h = present_from present (before_run noisy.1) x u ok noisy.2 h

pub no_phantom : (present : List ℕ) (x : List Seen) (u : ℕ) → FailureIsLast x → HonestTrace present x
    → has (acked_in x) u ≡ true → has present u ≡ true
no_phantom present x u ok honest h = no_phantom_in_noise present x u ok (honest_is_noisy present x honest) h
