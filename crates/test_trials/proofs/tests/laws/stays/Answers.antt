use Rattle.std.proofs.Common.{subst}
use Rattle.rdm_wire.specs.Honest.{HonestTrace}
use Rattle.rdm_line.specs.Scenes.{uids_of_scene}
use Rattle.rdm_log.specs.log.Runs.{run_exchanges}
use Rattle.rdm_scenes.specs.Scenes.{IsNewLine}
use Rattle.test_trials.proofs.tests.laws.stays.Goals as goal

pub returns-then-is_by_default-clause-honest : goal.returns-then-is_by_default-clause-honest
returns-then-is_by_default-clause-honest g c = λ r.
    let new : IsNewLine c.args.scene c.in-Ok.line = record {
      devices = c.in-Ok.ensures.devices;
      scene = c.in-Ok.ensures.scene;
      losses = c.in-Ok.ensures.losses;
      fails = c.in-Ok.ensures.fails;
    } in
    let staying = c.new_lines_are_scenes.ensures.staying c.args.scene c.in-Ok.line new c.requires.few_losses
    c.requires.stay in
    let over = c.in_ok-ran.ensures in
    subst (λ ds. HonestTrace (uids_of_scene ds) (run_exchanges r c.in_ok-ran.ran.1.entries)) c.in-Ok.ensures.devices
    (c.runs_are_honest.ensures.staying c.in-Ok.line over.0 c.in_ok-ran.ran.1 r over.1 staying)
