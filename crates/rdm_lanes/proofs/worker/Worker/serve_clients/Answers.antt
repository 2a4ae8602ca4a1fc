use Rattle.rdm_lanes.proofs.Common.{arith, NoExchange, IsServed}
use Rattle.rdm_lanes.proofs.LineLemmas.{line_same, line_join}
use Rattle.rdm_lanes.proofs.TurnLemmas.{done_none, done_more, done_all}
use Rattle.rdm_lanes.proofs.worker.Worker.serve_clients.Goals as goal

pub loop-at-init : goal.loop-at-init
loop-at-init c = done_none NoExchange IsServed line_same line_join c.args.self.now

pub loop-at-preserved : goal.loop-at-preserved
loop-at-preserved c =
    done_more NoExchange IsServed line_same line_join c.loop-at.at c.args.self.now c.loop-at.self
    c.serve_client.new.self c.loop-at.invariant c.serve_client.ensures

pub returns : goal.returns
returns c =
    done_all NoExchange IsServed line_same line_join c.loop-at.at c.args.self.now c.loop-at.self
    (omega (arith, c.loop-at-test.false, c.len-at-end.ensures, c.args.self.now.lanes.ok.0)) c.loop-at.invariant
