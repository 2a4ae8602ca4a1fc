use Rattle.rdm_lanes.proofs.PairLemmas.{clients_ended}
use Rattle.test_stage.proofs.lanes.LanesStage+J+Shown+J+R+X.compared.Goals as goal

pub end-requires : goal.end-requires
end-requires g c = record {
  pairs = clients_ended c.args.self.worker.server.lanes.items c.args.self.clients.items c.ended_in.result.items
      c.args.self.paired c.ended_in.ensures;
}
