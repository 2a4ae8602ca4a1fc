-- each client so far has these turns
use Rattle.std.proofs.Common.{◌≡◌}
use Rattle.std.specs.List.{All}
use Rattle.rdm_serving.proofs.serving.locked.join_all.Given as goal

abbrev pub invariant-loop-client : goal.invariant-loop-client
invariant-loop-client g l = All (λ c. c.turns ≡ l.fn.turns) l.callers.items
