-- fewer clients are left
use Rattle.std.proofs.Common.{length}
use Rattle.rdm_lanes.proofs.HandLemmas.{Ending}
use Rattle.test_stage.proofs.lanes.ended_in.Given as goal

abbrev pub invariant-loop-clients : goal.invariant-loop-clients
invariant-loop-clients g l = Ending l.fn.clients.items l.clients.items l.ends

abbrev pub decreases-loop-clients : goal.decreases-loop-clients
decreases-loop-clients g l = length l.clients.items
