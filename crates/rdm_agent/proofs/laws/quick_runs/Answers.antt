use Rattle.rdm_agent.proofs.Common.{refl, choose}
use Rattle.rdm_agent.proofs.SampleLines.{swept_honest}
use Rattle.rdm_agent.proofs.laws.quick_runs.Goals as goal

pub returns : goal.returns
unfolding choose
returns c = record {
  empty = refl;
  one = (refl, (refl, (refl, (refl, (refl, (refl, (refl, (refl, (refl, (refl, refl))))))))));
  honest = swept_honest;
  two = (refl, (refl, (refl, (refl, (refl, (refl, (refl, (refl, (refl, (refl, (refl, (refl, (refl, refl)))))))))))));
  corrupt = refl;
}
