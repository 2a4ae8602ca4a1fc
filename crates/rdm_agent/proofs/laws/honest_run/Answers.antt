use Rattle.std.proofs.Common.{refl, arith}
use Rattle.rdm_agent.proofs.SampleHonest.{lossy_honest}
use Rattle.rdm_agent.proofs.SampleCertificate.{certified}
use Rattle.rdm_agent.proofs.laws.honest_run.Goals as goal

pub returns : goal.returns
returns c = record {
  honest = lossy_honest 0 0 (omega arith) (omega arith);
  certified = certified;
  ends = (refl, (refl, (refl, (refl, (refl, (refl, (refl, (refl, (refl, (refl, refl))))))))));
}
