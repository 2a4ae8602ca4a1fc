use Rattle.std.proofs.Common.{◌≡◌, ◌*◌, ℕ, length, ◌+◌, ◌<◌, get_or, bit_and}
use Rattle.rdm_wire.proofs.branch.ands.Given as goal

abbrev pub invariant-pairs : goal.invariant-pairs
invariant-pairs g l =
    (length l.bytes ≡ g.row.N)
    × ((k : ℕ) → k < l.i → get_or l.bytes k 0 ≡ bit_and (get_or l.pairs (2 * k) 0) (get_or l.pairs (2 * k + 1) 0))
