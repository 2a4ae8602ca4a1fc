-- for each client so far, its places and its caller, with these turns
use Rattle.std.proofs.Common.{◌≡◌, length}
use Rattle.std.specs.List.{All}
use Rattle.rdm_serving.proofs.serving.rings.seats_of.Given as goal

abbrev pub invariant-loop-client : goal.invariant-loop-client
invariant-loop-client g l =
    (length l.places.items ≡ l.client-index) × (length l.callers.items ≡ length l.places.items)
    × All (λ c. c.turns ≡ l.fn.turns) l.callers.items
