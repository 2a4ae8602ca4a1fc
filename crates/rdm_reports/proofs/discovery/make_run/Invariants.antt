use Rattle.rdm_reports.specs.Discovery.{HasDriven}
use Rattle.rdm_reports.specs.LogText.{exchanges_text}
use Rattle.rdm_reports.specs.Writing.{Logs}
use Rattle.rdm_reports.proofs.discovery.make_run.Given as goal

abbrev pub invariant-exchanges : goal.invariant-exchanges
invariant-exchanges g l =
    (driven : HasDriven _ g.L.Line.step l.source l.fn.search l.fn.kind l.fn.known l.budget l.fn.line l.made l.agent
    l.line)
    × Logs l.fn.log l.log (exchanges_text driven.exchanges)
