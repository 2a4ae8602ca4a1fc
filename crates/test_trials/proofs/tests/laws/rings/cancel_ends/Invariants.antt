-- fewer ends are left
use Rattle.std.proofs.Common.{length}
use Rattle.test_trials.proofs.tests.laws.rings.cancel_ends.Given as goal

abbrev pub decreases-loop-end : goal.decreases-loop-end
decreases-loop-end g l = length l.ends.items
