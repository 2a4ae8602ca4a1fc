use Rattle.rdm_lanes.proofs.Common.{length, HoldNothing}
use Rattle.rdm_lanes.proofs.opening.steps.discard.Given as goal

abbrev pub invariant-loop-client : goal.invariant-loop-client
invariant-loop-client g l = HoldNothing l.clients.items

abbrev pub decreases-loop-client : goal.decreases-loop-client
decreases-loop-client g l = length l.clients.items
