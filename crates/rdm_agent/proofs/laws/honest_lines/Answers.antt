use Rattle.std.proofs.Common.{refl}
use Rattle.rdm_agent.proofs.SampleLines.{colliding_honest, failed_honest, garbled_to_one, garbled_to_none}
use Rattle.rdm_agent.proofs.laws.honest_lines.Goals as goal

pub returns : goal.returns
returns c = record {
  colliding = colliding_honest;
  both_found = (
    refl,
    (
      refl,
      (
        refl,
        (
          refl,
          (
            refl,
            (
              refl,
              (refl, (refl, (refl, (refl, (refl, (refl, (refl, (refl, (refl, (refl, (refl, (refl, refl)))))))))))),
            ),
          ),
        ),
      ),
    ),
  );
  failing = failed_honest;
  failed = (refl, (refl, (refl, (refl, refl))));
  to_one = garbled_to_one;
  to_no_set = garbled_to_none;
}
