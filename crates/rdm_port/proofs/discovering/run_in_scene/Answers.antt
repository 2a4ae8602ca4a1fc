use Rattle.std.proofs.Common.{refl}
use Rattle.std.specs.Prelude.{is_some}
use Rattle.rdm_reports.specs.OpeningText.{discovery_log}
use Rattle.rdm_port.proofs.LoggedLemmas.{opened_then, opened_same}
use Rattle.rdm_port.proofs.discovering.run_in_scene.Goals as goal

pub returns-in-Ok-discover_in-clause-ok : goal.returns-in-Ok-discover_in-clause-ok
returns-in-Ok-discover_in-clause-ok g c =
    let (ran, logs) = c.in-Ok-discover_in.ensures.logged in
    let file = c.in-Ok.file in
    let logged = discovery_log file.scene.source c.args.search c.args.kind file.known file.budget
    ran.discovery.driven.exchanges in (
      logged,
      record {
        file = file;
        reads = c.in-Ok.ensures.ok;
        run = ran;
        honest = c.in-Ok-discover_in.ensures.honest;
        logs = refl;
      },
      opened_then (is_some c.args.log_path) c.args.log.now c.open_log.new.log c.discover_in.new.log logged
          c.in_default.ensures.opened logs,
    )

pub returns-in-Err-discover_in-clause-logged : goal.returns-in-Err-discover_in-clause-logged
returns-in-Err-discover_in-clause-logged g c =
    opened_same (is_some c.args.log_path) c.args.log.now c.open_log.new.log c.discover_in.new.log
    c.in_default.ensures.opened c.in-Err-discover_in.ensures.unlogged
