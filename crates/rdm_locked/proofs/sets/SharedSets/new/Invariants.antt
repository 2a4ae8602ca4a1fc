-- as many sets as turns, and room for four
use Rattle.std.proofs.Common.{◌≡◌, ◌≤◌, length, vec_capacity}
use Rattle.rdm_locked.proofs.sets.SharedSets.new.Given as goal

abbrev pub invariant-sets : goal.invariant-sets
invariant-sets l = (length l.sets.items ≡ l._set) × (4 ≤ vec_capacity l.sets)
