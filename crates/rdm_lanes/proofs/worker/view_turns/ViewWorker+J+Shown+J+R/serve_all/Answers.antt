use Rattle.rdm_lanes.proofs.WorkLemmas.{turned_not, turned_unpublished, turned}
use Rattle.rdm_lanes.proofs.worker.view_turns.ViewWorker+J+Shown+J+R.serve_all.Goals as goal

pub returns-then-not-publish : goal.returns-then-not-publish
returns-then-not-publish g c =
    turned_not g.X.Line.step c.args.line.now c.args.self.now c.publish.new.self c.publish.result c.publish.ensures
    c.if-not-publish.true

pub returns-then-not-publish-2 : goal.returns-then-not-publish-2
returns-then-not-publish-2 g c =
    turned_unpublished g.X.Line.step c.args.line.now c.serve_and_exchange-attempt.new.line c.args.self.now
    c.publish.new.self c.serve_and_exchange-attempt.new.self c.publish-2.new.self c.publish.result c.publish-2.result
    c.serve_and_exchange-attempt.result c.publish.ensures c.serve_and_exchange-attempt.ensures c.publish-2.ensures
    c.if-not-publish-2.true

pub returns : goal.returns
returns g c =
    turned g.X.Line.step c.args.line.now c.serve_and_exchange-attempt.new.line c.args.self.now c.publish.new.self
    c.serve_and_exchange-attempt.new.self c.publish-2.new.self c.move_all.new.self c.publish.result c.publish-2.result
    c.serve_and_exchange-attempt.result c.publish.ensures c.serve_and_exchange-attempt.ensures c.publish-2.ensures
    c.move_all.ensures c.shows_legal.ensures.legal
