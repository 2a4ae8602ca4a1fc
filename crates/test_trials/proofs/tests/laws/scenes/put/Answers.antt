use Rattle.std.proofs.Common.{refl, sym, subst}
use Rattle.std.specs.List.{AllByRecursion}
use Rattle.rdm_line.specs.Scenes.{Stays}
use Rattle.test_trials.proofs.LawLemmas.{stay_with}
use Rattle.test_trials.proofs.tests.laws.scenes.put.Goals as goal

pub returns-in-Ok : goal.returns-in-Ok
returns-in-Ok c = λ never all. subst (AllByRecursion Stays) (sym c.in-Ok.ensures.added)
    (stay_with _ c.args.devices.now (record { from_start = refl; never = never }) all)
