use Rattle.std.proofs.Common.{refl, length, arith}
use Rattle.std.proofs.lemmas.Option.{slice_get_read}
use Rattle.rdm_lanes.proofs.PairLemmas.{client_called}
use Rattle.test_stage.proofs.lanes.LanesStage+J+Shown+J+R+X.client.Goals as goal

pub invariant_of-self : goal.invariant_of-self
invariant_of-self g c =
    let me = c.args.self.now in
    let mine = c.index_mut.result.now in
    let here = slice_get_read me.clients.items (length me.clients.items) c.args.at mine refl
    (omega (arith, c.if-at-len.false, c.len.ensures, me.clients.ok.0)) c.index_mut.ensures.value in
    record {
      paired = client_called me.worker.server.lanes.items me.clients.items c.args.at mine c.makes.new.client me.paired
          here c.makes.ensures;
    }
