use Rattle.std.proofs.Common.{refl}
use Rattle.rdm_agent.proofs.SampleHonest.{five_branches_lost, five_mutes_unacked}
use Rattle.rdm_agent.proofs.SampleNoise.{run_is_noisy, run_is_calm}
use Rattle.rdm_agent.proofs.laws.noisy_run.Goals as goal

pub returns : goal.returns
returns c = record {
  noisy = run_is_noisy;
  calm = run_is_calm;
  found = (
    refl,
    (
      refl,
      (
        refl,
        (
          refl,
          (
            refl,
            (
              refl,
              (
                refl,
                (
                  refl,
                  (
                    refl,
                    (
                      refl,
                      (
                        refl,
                        (
                          refl,
                          (
                            refl,
                            (refl, (refl, (refl, (refl, (refl, (refl, (refl, (refl, (refl, (refl, refl)))))))))),
                          ),
                        ),
                      ),
                    ),
                  ),
                ),
              ),
            ),
          ),
        ),
      ),
    ),
  );
  five_branches = five_branches_lost;
  five_mutes = five_mutes_unacked;
}
