use Rattle.rdm_lanes.proofs.PairLemmas.{worker_worked}
use Rattle.test_stage.proofs.lanes.LanesStage+J+Shown+J+R+X.work.Goals as goal

pub invariant_of-self : goal.invariant_of-self
invariant_of-self g c =
    let me = c.args.self.now in
    record {
      paired = worker_worked me.worker.server.lanes.items c.work.new.self.server.lanes.items me.clients.items me.paired
          c.work.ensures.lanes;
    }
