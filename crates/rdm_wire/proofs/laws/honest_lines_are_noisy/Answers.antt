use Rattle.rdm_wire.proofs.NoisyLemmas.{honest_undisturbed, honest_to_is_noisy}
use Rattle.rdm_wire.proofs.laws.honest_lines_are_noisy.Goals as goal

pub returns : goal.returns
returns c = record { undisturbed = honest_undisturbed; each = honest_to_is_noisy }
