-- what is left gets less
use Rattle.std.proofs.Common.{◌+◌, length}
use Rattle.test_stage.proofs.lanes.cancelled.Given as goal

abbrev pub decreases-loop-left : goal.decreases-loop-left
decreases-loop-left l = length l.unspent.requests + length l.unspent.asks
