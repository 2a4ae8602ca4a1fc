-- the clients get fewer
use Rattle.std.proofs.Common.{length}
use Rattle.test_threads.proofs.tests.lanes.drained.end_all.Given as goal

abbrev pub decreases-loop-client : goal.decreases-loop-client
decreases-loop-client g l = length l.clients.items
