-- what is left gets less
use Rattle.std.proofs.Common.{◌+◌, length}
use Rattle.rdm_serving.proofs.serving.calls.cancel_all.Given as goal

abbrev pub decreases-loop-left : goal.decreases-loop-left
decreases-loop-left l = length l.unspent.requests + length l.unspent.asks
