-- fewer clients are left
use Rattle.std.proofs.Common.{length}
use Rattle.test_stage.proofs.lanes.seen_last.Given as goal

abbrev pub decreases-loop-client : goal.decreases-loop-client
decreases-loop-client g l = length l.clients.items
