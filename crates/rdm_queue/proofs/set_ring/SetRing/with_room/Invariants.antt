use Rattle.rdm_queue.proofs.Common.{◌≡◌, ◌≤◌, length, vec_len, vec_capacity}
use Rattle.rdm_queue.proofs.set_ring.SetRing.with_room.Given as goal

abbrev pub invariant-loop : goal.invariant-loop
invariant-loop l = (vec_len l.sets ≡ l.counter) × (4 ≤ vec_capacity l.sets) × (length l.sets.items ≡ l.counter)
