-- fewer ends are left
use Rattle.std.proofs.Common.{length}
use Rattle.test_stage.proofs.lanes.all_left.Given as goal

abbrev pub decreases-loop-alloc : goal.decreases-loop-alloc
decreases-loop-alloc g l = length l.ends.items
