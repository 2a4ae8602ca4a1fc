use Rattle.std.proofs.Common.{take}
use Rattle.rdm_serving.specs.LoggedOutcomes.{AllLogged}
use Rattle.rdm_serving.proofs.serving.logged.are_all_logged.Given as goal

abbrev pub invariant-clients : goal.invariant-clients
invariant-clients l = AllLogged l.log.opening l.log.entries 0 (take l.client l.told)
