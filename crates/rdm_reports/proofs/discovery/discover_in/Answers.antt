use Rattle.rdm_reports.specs.OpeningText.{discovery_log}
use Rattle.rdm_reports.specs.SceneDiscovery.{IsSceneDiscovery}
use Rattle.rdm_reports.specs.Writing.{Logs}
use Rattle.rdm_reports.proofs.SceneRuns.{on_scene, on_scene_with, loses_few, honest_report}
use Rattle.rdm_reports.proofs.discovery.discover_in.Goals as goal

pub returns-in-Ok-clause-run : goal.returns-in-Ok-clause-run
returns-in-Ok-clause-run g c =
    on_scene c.args.scene c.args.search c.args.kind c.args.known.now c.args.budget c.discover-run.result.frames
    c.discover-run.result.found c.in-Ok.line c.discover-run.new.line
    (record {
      devices = c.in-Ok.ensures.devices;
      unmuted = c.in-Ok.ensures.unmuted;
      collisions = c.in-Ok.ensures.collisions;
      losses = c.in-Ok.ensures.losses;
      fails = c.in-Ok.ensures.fails;
      exchanges = c.in-Ok.ensures.counts.0;
      failures = c.in-Ok.ensures.counts.1;
    })
    c.discover-run.ensures.run c.discover-run.ensures.countable

pub returns-in-Ok-clause-honest : goal.returns-in-Ok-clause-honest
returns-in-Ok-clause-honest g c few =
    let run : IsSceneDiscovery c.args.scene c.args.search c.args.kind c.args.known.now c.args.budget
    c.discover-run.result.found c.discover-run.result.frames = returns-in-Ok-clause-run g c in
    honest_report c.args.scene c.args.search c.args.kind c.args.known.now c.args.budget c.discover-run.result.found
    c.discover-run.result.frames run (loses_few c.args.scene c.args.search c.args.kind c.args.known.now c.args.budget
    c.discover-run.result.frames c.discover-run.result.found run few)

pub returns-in-Ok-clause-logged : goal.returns-in-Ok-clause-logged
returns-in-Ok-clause-logged g c =
    on_scene_with c.args.scene c.args.search c.args.kind c.args.known.now c.args.budget c.discover-run.result.frames
    c.discover-run.result.found c.in-Ok.line c.discover-run.new.line
    (λ exchanges. Logs c.args.log.now c.discover-run.new.log (discovery_log
    c.args.scene.source c.args.search c.args.kind c.args.known.now c.args.budget exchanges))
    (record {
      devices = c.in-Ok.ensures.devices;
      unmuted = c.in-Ok.ensures.unmuted;
      collisions = c.in-Ok.ensures.collisions;
      losses = c.in-Ok.ensures.losses;
      fails = c.in-Ok.ensures.fails;
      exchanges = c.in-Ok.ensures.counts.0;
      failures = c.in-Ok.ensures.counts.1;
    })
    c.discover-run.ensures.logged c.discover-run.ensures.countable
