-- On a calm line a run whose budget suffices is answered without fault, unless the queue is closed. So is a quick one
-- on a noisy line.
use Rattle.std.specs.Prelude.{◌≡◌, ◌⊎◌, ℕ, ◌≤◌, true, List, [], ◌∷◌, Some}
use Rattle.rdm_agent.specs.declared.search.Search.TheVariants.{Quick}
use Rattle.rdm_agent.specs.Bound.{IsCalm, IsNoisy, enough_by, enough_in_noise}
use Rattle.rdm_log.specs.declared.entry.Entry.{Entry}
use Rattle.rdm_log.specs.declared.entry.Entry.TheVariants.{Answer}
use Rattle.rdm_log.specs.log.History.{is_closed}
use Rattle.rdm_log.specs.log.Runs.{run_exchanges, run_kind, known_at_run}
use Rattle.rdm_log.specs.log.LogState.{LogState, grown}

-- the run's exchanges are those of an honest line with these devices, of which there are at most 1,024, without a
-- failure; and the budget is at least the bound on frames, for the search that the log's runs make
pub record IsCalmRun (k : LogState) (r : ℕ) (present : List ℕ) : Type 0 where
  pub calm : IsCalm present (run_exchanges r k.entries)
  pub budgeted :
      enough_by k.opening.search present (run_kind r k.entries) (known_at_run k.opening r k.entries) ≤ k.opening.budget

-- the run is quick, and its exchanges are those of a noisy line with these devices, of which there are at most 1,024,
-- without a failure; w of them are disturbed, but never more than seven branches in a row; and the budget is at least
-- the bound on frames for so many
pub record IsNoisyRun (k : LogState) (r : ℕ) (present : List ℕ) (w : ℕ) : Type 0 where
  pub noisy : IsNoisy present w (run_exchanges r k.entries)
  pub quick : k.opening.search ≡ Quick
  pub budgeted :
      enough_in_noise present (run_kind r k.entries) (known_at_run k.opening r k.entries) w ≤ k.opening.budget

-- one of both
abbrev pub IsCalmOrNoisy : LogState → ℕ → List ℕ → Type 0
IsCalmOrNoisy k r present = IsCalmRun k r present ⊎ ((w : ℕ) × IsNoisyRun k r present w)

-- if this entry after this log is an Answer with a fault by such a run, then the queue is closed
abbrev pub FaultNeedsClose : LogState → Entry → Type 0
FaultNeedsClose k (Answer n r (Some fault)) =
    (present : List ℕ) → IsCalmOrNoisy k r present → is_closed k.opening k.entries ≡ true
FaultNeedsClose k _ = Unit {0}

-- the same for each entry of a block, after the log with the block's earlier entries
abbrev pub AnswersInBound : LogState → List Entry → Type 0
AnswersInBound k [] = Unit {0}
AnswersInBound k (e ∷ block) = FaultNeedsClose k e × AnswersInBound (grown k (e ∷ [])) block
