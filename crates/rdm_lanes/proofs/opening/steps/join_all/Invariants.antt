use Rattle.rdm_lanes.proofs.Common.{◌≡◌, ◌≤◌, ◌+◌, take, ◌⊎◌, join_entries}
use Rattle.rdm_lanes.proofs.opening.steps.join_all.Given as goal

abbrev pub invariant-loop-n : goal.invariant-loop-n
invariant-loop-n l =
    (l.session ≡ record l.fn.session { entries = join_entries 0 (take l.n-index l.places) })
    × ((l.n-index ≡ 0) ⊎ (l.n-index + 3 ≤ l.fn.session.room))
