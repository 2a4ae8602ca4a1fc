use Rattle.rdm_reports.specs.LogText.{exchanges_text}
use Rattle.rdm_reports.specs.OpeningText.{discovery_opening}
use Rattle.rdm_reports.proofs.WritingLemmas.{logs_more}
use Rattle.rdm_reports.proofs.discovery.discover.Goals as goal

pub returns-clause-logged : goal.returns-clause-logged
returns-clause-logged g c = (
  c.make_run.ensures.logged.0,
  logs_more c.args.log.now c.write_discovery_opening.new.log c.make_run.new.log
      (discovery_opening c.args.source c.args.search c.args.kind c.args.known.now c.args.budget)
      (exchanges_text c.make_run.ensures.logged.0.driven.exchanges)
      (rw c.as_slice.ensures.value at c.write_discovery_opening.ensures) c.make_run.ensures.logged.1,
)
