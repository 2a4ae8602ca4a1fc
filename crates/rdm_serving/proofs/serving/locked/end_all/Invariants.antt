-- the callers get fewer
use Rattle.std.proofs.Common.{length}
use Rattle.rdm_serving.proofs.serving.locked.end_all.Given as goal

abbrev pub decreases-loop-caller : goal.decreases-loop-caller
decreases-loop-caller g l = length l.callers.items
