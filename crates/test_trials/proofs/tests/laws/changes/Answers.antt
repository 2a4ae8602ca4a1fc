use Rattle.std.proofs.Common.{◌≡◌, true, sym, subst}
use Rattle.rdm_wire.specs.Uid.{has}
use Rattle.rdm_line.specs.Scenes.{present_at}
use Rattle.rdm_scenes.specs.Scenes.{IsNewLine}
use Rattle.test_trials.proofs.LawLemmas.{if_some}
use Rattle.test_trials.proofs.tests.laws.changes.Goals as goal

pub returns-clause-staying : goal.returns-clause-staying
returns-clause-staying g c =
    let new : IsNewLine c.args.scene c.in-Ok.line = record {
      devices = c.in-Ok.ensures.devices;
      scene = c.in-Ok.ensures.scene;
      losses = c.in-Ok.ensures.losses;
      fails = c.in-Ok.ensures.fails;
    } in
    let lossy = c.new_lines_are_scenes.ensures.lossy c.args.scene c.in-Ok.line new c.requires.few_losses in
    if_some _ _ c.serves.result
    (λ ran over front back n r u is stays.
    (c.answers_follow_the_devices.ensures c.in-Ok.line over.0 ran.1 over.1 lossy).staying front back n r u is
    (λ i. subst (λ ds. has (present_at ds i) u ≡ true) (sym c.in-Ok.ensures.devices) (stays i)))
    c.serves.ensures

pub returns-clause-no_stranger : goal.returns-clause-no_stranger
returns-clause-no_stranger g c =
    let new : IsNewLine c.args.scene c.in-Ok.line = record {
      devices = c.in-Ok.ensures.devices;
      scene = c.in-Ok.ensures.scene;
      losses = c.in-Ok.ensures.losses;
      fails = c.in-Ok.ensures.fails;
    } in
    let lossy = c.new_lines_are_scenes.ensures.lossy c.args.scene c.in-Ok.line new c.requires.few_losses in
    if_some _ _ c.serves.result
    (λ ran over front back n r fault u is there.
    let at = (c.answers_follow_the_devices.ensures c.in-Ok.line over.0 ran.1 over.1 lossy).no_stranger front back n r
    fault u is there in
    (at.0, subst (λ ds. has (present_at ds at.0) u ≡ true) c.in-Ok.ensures.devices at.1))
    c.serves.ensures
