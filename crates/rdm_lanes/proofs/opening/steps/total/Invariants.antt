use Rattle.std.proofs.Common.{◌≡◌, ◌≤◌, ◌*◌, sum, take}
use Rattle.rdm_lanes.proofs.opening.steps.total.Given as goal

abbrev pub invariant-loop-n : goal.invariant-loop-n
invariant-loop-n l = (l.all ≡ sum (take l.n-index l.places)) × (l.all ≤ 255 * l.n-index)
