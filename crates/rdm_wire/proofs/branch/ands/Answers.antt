use Rattle.std.proofs.Common.{arith}
use Rattle.rdm_wire.proofs.BranchLemmas.{ands_is}
use Rattle.rdm_wire.proofs.branch.ands.Goals as goal

pub returns : goal.returns
returns g c = ands_is c.args.pairs.now _ (omega arith) (λ i lt. c.pairs.invariant.1 i (omega arith))
