use Rattle.rdm_wire.proofs.EachDevice.{honest_to_each}
use Rattle.rdm_explain.specs.Exchanges.{seen_all}
use Rattle.rdm_explain.proofs.laws.breach_is_not_honest.Goals as goal

pub returns : goal.returns
returns c = λ u present xs b breach here honest. breach.never (honest_to_each present u (seen_all xs) here honest)
