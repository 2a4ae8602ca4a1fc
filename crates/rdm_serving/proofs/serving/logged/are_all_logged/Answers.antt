use Rattle.std.proofs.Common.{arith}
use Rattle.rdm_serving.proofs.LoggedLemmas.{logged_next}
use Rattle.rdm_serving.proofs.serving.logged.are_all_logged.Goals as goal

pub clients-preserved : goal.clients-preserved
clients-preserved c = logged_next c.args.log.now.opening c.args.log.now.entries c.args.told.now c.clients.client
    c.index-told-client.result (omega arith) c.index-told-client.is c.clients.invariant c.if-not-is_logged.ensures
