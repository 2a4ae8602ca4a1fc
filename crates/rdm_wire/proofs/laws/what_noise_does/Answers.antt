use Rattle.rdm_wire.proofs.SampleNoise.{noisy, dishonest, absent_unacked, no_text_of_absent}
use Rattle.rdm_wire.proofs.laws.what_noise_does.Goals as goal

pub returns : goal.returns
returns c = record {
  noisy = noisy;
  dishonest = dishonest;
  unacked = absent_unacked;
  no_text = no_text_of_absent;
}
