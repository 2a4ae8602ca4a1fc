use Rattle.rdm_queue.proofs.Common.{◌≡◌, take, places_of}
use Rattle.rdm_queue.proofs.queue.places_of.Given as goal

-- those of the clients so far
abbrev pub invariant-loop-client : goal.invariant-loop-client
invariant-loop-client l = l.places.items ≡ places_of (take l.client-index l.clients)
