use Rattle.std.proofs.Common.{refl, length, slice_set, arith}
use Rattle.std.proofs.lemmas.Option.{slice_get_read}
use Rattle.rdm_lanes.proofs.PairLemmas.{client_called, worker_worked}
use Rattle.test_stage.proofs.threads.LanesStage+J+Shown+J+W+X.beside.Goals as goal

pub invariant_of-self-2 : goal.invariant_of-self-2
invariant_of-self-2 g c =
    let me = c.args.self.now in
    let mine = c.index_mut.result.now in
    let here = slice_get_read me.clients.items (length me.clients.items) c.args.at mine refl
    (omega (arith, c.if-at-len.false, c.len.ensures, me.clients.ok.0)) c.index_mut.ensures.value in
    let called = client_called me.worker.server.lanes.items me.clients.items c.args.at mine c.beside-end.new.client
    me.paired here c.beside-end.ensures.client in
    record {
      paired = worker_worked me.worker.server.lanes.items c.beside-end.new.worker.server.lanes.items
          (slice_set me.clients.items c.args.at c.beside-end.new.client) called c.beside-end.ensures.lanes;
    }
