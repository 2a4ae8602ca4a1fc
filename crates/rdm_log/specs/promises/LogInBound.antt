-- A log in which each run on a calm line, whose budget suffices, is answered without fault. So is a quick one on a
-- noisy line.
use Rattle.std.specs.Prelude.{◌≡◌, ℕ, true, List, ◌∷◌, ◌++◌, Some}
use Rattle.rdm_agent.specs.declared.fault.AgentFault.{AgentFault}
use Rattle.rdm_log.specs.declared.entry.Entry.{Entry}
use Rattle.rdm_log.specs.declared.entry.Entry.TheVariants.{Answer}
use Rattle.rdm_log.specs.log.History.{is_closed}
use Rattle.rdm_log.specs.log.LogState.{LogState, with_entries}
use Rattle.rdm_log.specs.promises.InBound.{IsCalmRun, IsNoisyRun}

-- An Answer by a calm run has a fault only if the queue is closed. A run is calm if its exchanges are those of an
-- honest line whose devices stay and are at most 1,024, without a failure, and its budget suffices.
pub record InBound (k : LogState) : Type 0 where
  pub closed_first : (front back : List Entry) (n r : ℕ) (fault : AgentFault) (present : List ℕ)
      → k.entries ≡ front ++ Answer n r (Some fault) ∷ back → IsCalmRun (with_entries k front) r present
      → is_closed k.opening front ≡ true
  -- The same for a quick run on a noisy line, if its budget allows 15 exchanges more for each disturbed one, and never
  -- more than seven branches in a row are disturbed.
  pub closed_first_in_noise : (front back : List Entry) (n r : ℕ) (fault : AgentFault) (present : List ℕ) (w : ℕ)
      → k.entries ≡ front ++ Answer n r (Some fault) ∷ back → IsNoisyRun (with_entries k front) r present w
      → is_closed k.opening front ≡ true
