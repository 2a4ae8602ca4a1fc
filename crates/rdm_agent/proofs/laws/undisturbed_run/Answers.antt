use Rattle.std.proofs.Common.{refl, arith}
use Rattle.rdm_agent.proofs.SampleHonest.{lossy_honest, sample-not_failed}
use Rattle.rdm_agent.proofs.laws.undisturbed_run.Goals as goal

pub returns : goal.returns
returns c = record {
  undisturbed = record {
    calm = record {
      honest = lossy_honest 0 0 (omega arith) (omega arith);
      few = omega arith;
      no_failure = sample-not_failed;
    };
    not_aborted = refl;
    budgeted = omega arith;
  };
  ends = (refl, (refl, (refl, (refl, (refl, (refl, (refl, (refl, (refl, (refl, refl))))))))));
  one_device = refl;
  most_devices = refl;
}
