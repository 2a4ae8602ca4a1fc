use Rattle.std.proofs.Common.{◌≡◌, ℕ, take}
use Rattle.rdm_wire.specs.Uid.{has}
use Rattle.rdm_explain.specs.body.Trees.{in_tree}
use Rattle.rdm_explain.proofs.uids.Uids.of.Given as goal

abbrev pub invariant-loop-uid : goal.invariant-loop-uid
invariant-loop-uid l = (u : ℕ) → in_tree l.tree u ≡ has (take l.uid-index l.uids) u
