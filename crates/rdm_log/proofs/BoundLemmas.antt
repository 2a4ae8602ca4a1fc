-- Blocks whose Answers are in bound.
use Rattle.rdm_log.proofs.Common.{◌≡◌, List, [], ◌∷◌, ◌++◌, append_assoc, append-nil, Entry, LogState, grown}
use Rattle.rdm_log.proofs.Common.{FaultNeedsClose, AnswersInBound}

-- a block after a block
pub both_in_bound : (k : LogState) (block more : List Entry) → AnswersInBound k block
    → AnswersInBound (grown k block) more → AnswersInBound k (block ++ more)
both_in_bound k [] more all later = rw append-nil at later
both_in_bound k (x ∷ block) more all later =
    (all.0, both_in_bound (grown k (x ∷ [])) block more all.1 (rw (← append_assoc k.entries (x ∷ []) block) at later))

pub block_more : (k : LogState) (block : List Entry) (e : Entry) → AnswersInBound k block
    → FaultNeedsClose (grown k block) e → AnswersInBound k (block ++ e ∷ [])
block_more k block e all is = both_in_bound k block (e ∷ []) all (is, tt)

-- a block after a log that grew
pub after_growth : (old log : LogState) (block more : List Entry) → log ≡ grown old block → AnswersInBound log more
    → AnswersInBound (grown old block) more
after_growth old log block more is all = rw is at all

-- an entry within a block
pub within_block : (k : LogState) (front : List Entry) (e : Entry) (back : List Entry)
    → AnswersInBound k (front ++ e ∷ back) → FaultNeedsClose (grown k front) e
within_block k [] e back all = rw append-nil all.0
within_block k (x ∷ front) e back all =
    rw (append_assoc k.entries (x ∷ []) front) at (within_block (grown k (x ∷ [])) front e back all.1)
