use Rattle.rdm_lanes.proofs.Common.{arith, OnlyCollects, IsMoved}
use Rattle.rdm_lanes.proofs.CollectLemmas.{collects_none, collects_join}
use Rattle.rdm_lanes.proofs.TurnLemmas.{done_none, done_more, done_all}
use Rattle.rdm_lanes.proofs.worker.Worker.move_all.Goals as goal

pub loop-at-init : goal.loop-at-init
loop-at-init c = done_none OnlyCollects IsMoved collects_none collects_join c.args.self.now

pub loop-at-preserved : goal.loop-at-preserved
loop-at-preserved c =
    done_more OnlyCollects IsMoved collects_none collects_join c.loop-at.at c.args.self.now c.loop-at.self
    c.move_for.new.self c.loop-at.invariant c.move_for.ensures

pub returns : goal.returns
returns c =
    done_all OnlyCollects IsMoved collects_none collects_join c.loop-at.at c.args.self.now c.loop-at.self
    (omega (arith, c.loop-at-test.false, c.len-at-end.ensures, c.args.self.now.lanes.ok.0)) c.loop-at.invariant
