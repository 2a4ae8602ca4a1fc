-- the clients get fewer
use Rattle.std.proofs.Common.{length}
use Rattle.rdm_bench.proofs.ports.end_clients.Given as goal

abbrev pub decreases-loop-client : goal.decreases-loop-client
decreases-loop-client g l = length l.clients.items
