-- the client stays the same
use Rattle.rdm_lanes.specs.Clients.{SameClient}
use Rattle.rdm_bench.proofs.lasting.Caller.perform.Given as goal

abbrev pub invariant-loop-try : goal.invariant-loop-try
invariant-loop-try g l = SameClient l.fn.client l.client
