use Rattle.std.proofs.Common.{take}
use Rattle.rdm_serving.specs.LoggedCalls.{AllCalled}
use Rattle.rdm_serving.proofs.serving.called.all_called.Given as goal

abbrev pub invariant-clients : goal.invariant-clients
invariant-clients l = AllCalled l.entries 0 (take l.client l.clients)
