-- the ends get fewer
use Rattle.std.proofs.Common.{length}
use Rattle.rdm_bench.proofs.lasting.cancel_ends.Given as goal

abbrev pub decreases-loop-end : goal.decreases-loop-end
decreases-loop-end g l = length l.ends.items
