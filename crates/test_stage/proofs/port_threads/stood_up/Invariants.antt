-- the seats get fewer
use Rattle.std.proofs.Common.{length}
use Rattle.test_stage.proofs.port_threads.stood_up.Given as goal

abbrev pub decreases-loop-seat : goal.decreases-loop-seat
decreases-loop-seat g l = length l.seats.items
