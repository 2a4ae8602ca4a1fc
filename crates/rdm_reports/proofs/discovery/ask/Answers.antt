use Rattle.std.proofs.Common.{rules}
use Rattle.rdm_reports.proofs.discovery.ask.Goals as goal

pub returns : goal.returns
returns g c = (
  record {
    exchange = (c.frame-frame.result, c.from-event.result);
    goes_on = search rules;
    frame = search rules;
    asked = search rules;
    steps = rw c.from-event.ensures c.exchange.ensures.step;
    hears = search rules;
  },
  c.write_exchange.ensures,
)
