-- the client stays the same
use Rattle.rdm_lanes.specs.Clients.{SameClient}
use Rattle.test_stage.proofs.player.plays.Given as goal

abbrev pub invariant-loop-play : goal.invariant-loop-play
invariant-loop-play g l = SameClient l.fn.client l.client
