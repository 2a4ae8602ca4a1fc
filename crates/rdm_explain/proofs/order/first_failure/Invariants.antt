use Rattle.std.proofs.Common.{take}
use Rattle.rdm_explain.specs.Exchanges.{seen_all}
use Rattle.rdm_explain.specs.Certificates.{NoFailure}
use Rattle.rdm_explain.proofs.order.first_failure.Given as goal

abbrev pub invariant-loop-at : goal.invariant-loop-at
invariant-loop-at l = NoFailure (seen_all (take l.at l.exchanges))
