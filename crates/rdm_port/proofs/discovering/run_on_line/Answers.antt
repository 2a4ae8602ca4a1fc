use Rattle.std.proofs.Common.{refl}
use Rattle.std.specs.Prelude.{is_some}
use Rattle.rdm_reports.specs.OpeningText.{discovery_log}
use Rattle.rdm_port.proofs.LoggedLemmas.{opened_then}
use Rattle.rdm_port.proofs.discovering.run_on_line.Goals as goal

pub returns-clause-ok : goal.returns-clause-ok
returns-clause-ok g c =
    let (ran, logs) = c.discover.ensures.logged in
    let values = c.in-Ok.values in
    let logged = discovery_log values.source c.args.search c.args.kind values.known c.args.own.now.budget
    ran.driven.exchanges in (
      logged,
      record {
        values = values;
        says = c.in-Ok.ensures.ok;
        before = c.in-Ok-open.line;
        begins = c.in-Ok-open.ensures;
        after = c.discover.new.line;
        run = ran;
        countable = c.discover.ensures.countable;
        logs = refl;
      },
      opened_then (is_some c.args.log_path) c.args.log.now c.open_log.new.log c.discover.new.log logged
          c.in_default.ensures.opened logs,
    )
