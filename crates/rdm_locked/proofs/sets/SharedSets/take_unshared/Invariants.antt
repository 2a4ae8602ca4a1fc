-- looking whether a set is shared leaves it among them
use Rattle.std.proofs.Common.{◌≡◌, length}
use Rattle.rdm_locked.proofs.sets.SharedSets.take_unshared.Given as goal

abbrev pub invariant-sets : goal.invariant-sets
invariant-sets l = length l.self.sets.items ≡ length l.fn.self.sets.items
