use Rattle.std.specs.Prelude.{◌≡◌, ◌≤◌, ◌+◌, length}
use Rattle.std.specs.List.{sum_by}
use Rattle.rdm_locked.specs.body.Found.{AreMerged}
use Rattle.rdm_locked.proofs.inside.finish.gather.Given as goal

abbrev pub invariant-loop-share : goal.invariant-loop-share
invariant-loop-share g l =
    (l.book.total ≡ l.fn.book.total)
    × (l.rest.amount ≡ l.calls)
    × (l.rest.parts ≤ g.L.Ledger-2.parts)
    × (l.rest.parts + length l.shares.items ≡ l.fn.rest.parts + length l.fn.shares.items)
    × (l.calls + sum_by (λ s. s.count) l.shares.items ≡ sum_by (λ s. s.count) l.fn.shares.items)
    × AreMerged l.fn.lists.lists l.lists.lists l.fn.shares.items l.shares.items

abbrev pub decreases-loop-share : goal.decreases-loop-share
decreases-loop-share g l = length l.shares.items
