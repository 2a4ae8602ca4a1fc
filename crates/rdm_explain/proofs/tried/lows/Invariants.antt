use Rattle.std.proofs.Common.{◌≡◌, ℕ, take}
use Rattle.rdm_wire.specs.Uid.{has}
use Rattle.rdm_explain.specs.body.Trees.{in_tree}
use Rattle.rdm_explain.specs.body.Trying.{lows}
use Rattle.rdm_explain.proofs.tried.lows.Given as goal

abbrev pub invariant-loop-stretch : goal.invariant-loop-stretch
invariant-loop-stretch l = (u : ℕ) → in_tree l.uids u ≡ has (lows (take l.stretch-index l.stretches)) u
