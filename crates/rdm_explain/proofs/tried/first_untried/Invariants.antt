use Rattle.std.proofs.Common.{take}
use Rattle.rdm_explain.specs.Exchanges.{seen_all}
use Rattle.rdm_explain.specs.Certificates.{AreTried}
use Rattle.rdm_explain.proofs.tried.first_untried.Given as goal

abbrev pub invariant-loop-at : goal.invariant-loop-at
invariant-loop-at l = AreTried (seen_all l.exchanges) (seen_all (take l.at l.exchanges))
