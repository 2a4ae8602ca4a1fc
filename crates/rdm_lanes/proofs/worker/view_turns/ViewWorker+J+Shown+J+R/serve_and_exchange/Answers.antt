use Rattle.std.proofs.Common.{refl}
use Rattle.rdm_lanes.proofs.LineLemmas.{line_join}
use Rattle.rdm_lanes.proofs.ShowingLemmas.{publishes_found}
use Rattle.rdm_lanes.proofs.FirstLemmas.{still_shown}
use Rattle.rdm_lanes.proofs.worker.view_turns.ViewWorker+J+Shown+J+R.serve_and_exchange.Goals as goal

pub invariant_of-self : goal.invariant_of-self
invariant_of-self g c =
    let me = c.args.self.now in
    let called = c.serve_operator.new.self in
    let still = still_shown me.server called me.views
    (line_join me.server.session c.serve_clients.new.self.session called.session c.serve_clients.ensures.grows
    c.serve_operator.ensures.line) c.requires me.publishes in
    let made = c.exchange.ensures.attempted in
    record {
      publishes = publishes_found called.session c.exchange.new.self.session made.exchanged.block me.views
          still.published made.exchanged.grows made.found still.publishes;
      shown_first = rw c.exchange.ensures.ends.0 still.shown_first;
    }

pub returns : goal.returns
returns g c = record {
  after_clients = c.serve_clients.new.self;
  after_operator = c.serve_operator.new.self;
  clients = c.serve_clients.ensures;
  operator = c.serve_operator.ensures;
  attempted = c.exchange.ensures.attempted;
  ends = c.exchange.ensures.ends;
  views = (refl, refl);
}
