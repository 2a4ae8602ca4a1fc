use Rattle.rdm_wire.specs.Devices.{uids_of}
use Rattle.rdm_agent.proofs.OneDevice.{found_in_noise}
use Rattle.rdm_agent.proofs.Honest.{devices_in_noise, no_phantom_in_noise}
use Rattle.rdm_agent.proofs.laws.noisy_certificate.Goals as goal

pub returns : goal.returns
returns c = record {
  found = λ kind known x s u device certificate noisy. found_in_noise kind known x (uids_of s) u device
      certificate.search noisy;
  devices = λ kind known x s present certificate noisy. devices_in_noise kind known x (uids_of s) present
      certificate.search noisy;
  no_phantom = no_phantom_in_noise;
}
