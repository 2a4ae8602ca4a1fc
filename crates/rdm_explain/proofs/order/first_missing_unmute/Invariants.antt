use Rattle.std.proofs.Common.{◌≤◌}
use Rattle.rdm_explain.specs.Exchanges.{seen_all}
use Rattle.rdm_explain.specs.Certificates.{BeginsByUnmutes}
use Rattle.rdm_explain.proofs.order.first_missing_unmute.Given as goal

abbrev pub invariant-loop-at : goal.invariant-loop-at
invariant-loop-at l = BeginsByUnmutes l.at (seen_all l.exchanges) × (l.at ≤ 3)
