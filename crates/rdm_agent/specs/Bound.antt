-- How many exchanges a run on an honest or noisy line makes at most, and that it ends without fault.
use Rattle.std.specs.Prelude.{◌≡◌, ◌≢◌, ℕ, ◌+◌, ◌*◌, ◌≤◌, false, List, [], ◌∷◌, ◌++◌, length, None}
use Rattle.std.specs.List.{AllByRecursion}
use mathlib.Core.Logic.{inl, inr}
use Rattle.std.specs.Prelude.{if◌then◌else◌}
use Rattle.rdm_wire.specs.Honest.{Asked, Heard, Seen, LineState, HonestTrace, Chain, before_run}
use Rattle.rdm_wire.specs.Honest.Asked.{Unmute, Branch, Mute, Other}
use Rattle.rdm_wire.specs.Noisy.{NoisyStep, NoisyTraceWith, is_disturbed}
use Rattle.rdm_wire.specs.Honest.Heard.{Failed}
use Rattle.rdm_agent.specs.Certificate.{known_of}
use Rattle.rdm_agent.specs.Machine.{AgentState, next_of, fault_of}
use Rattle.rdm_agent.specs.Calls.{RunSoFar, next_op}
use Rattle.rdm_agent.specs.Statements.{OfEachRun}
use Rattle.rdm_agent.specs.declared.kind.Kind.{Kind}
use Rattle.rdm_agent.specs.declared.search.Search.{Search}
use Rattle.rdm_agent.specs.declared.search.Search.TheVariants.{Steady, Quick}
use Rattle.rdm_agent.specs.declared.op.Op.TheVariants.{End}
use Rattle.rdm_agent.specs.declared.limits.TheConstants.{DEFAULT_BUDGET}

-- the exchanges that suffice for this many devices and this many known UIDs
abbrev pub most_frames : ℕ → ℕ → ℕ
most_frames devices known = 8 + 370 * devices + 5 * known

-- the exchanges that suffice for a steady run of this kind with these devices and known UIDs; a full one mutes no known
-- UIDs
abbrev pub enough_for : List ℕ → Kind → List ℕ → ℕ
enough_for present kind known = most_frames (length present) (length (known_of kind known))

-- what suffices for a run with this search; the sweep of a quick one adds 205
abbrev pub enough_by : Search → List ℕ → Kind → List ℕ → ℕ
enough_by Steady present kind known = enough_for present kind known
enough_by Quick present kind known = 213 + 370 * length present + 5 * length (known_of kind known)

-- an honest line with these devices, without a failure; a run can report all of them
pub record IsCalm (present : List ℕ) (x : List Seen) : Type 0 where
  pub honest : HonestTrace present x
  pub few : length present ≤ 1024
  pub no_failure : AllByRecursion (λ e. e.heard ≢ Failed) x

-- a run on such a line that wasn't aborted, and has the budget that suffices
pub record IsUndisturbed (present : List ℕ) (run : RunSoFar) : Type 0 where
  pub calm : IsCalm present run.exchanges
  pub not_aborted : run.aborted ≡ false
  pub budgeted : enough_by run.search present run.kind run.known ≤ run.budget

-- a run after one more exchange, which only a run makes that wasn't aborted
abbrev pub with_exchange : RunSoFar → Seen → RunSoFar
with_exchange run e = record {
  search = run.search;
  kind = run.kind;
  known = run.known;
  budget = run.budget;
  aborted = false;
  exchanges = run.exchanges ++ e ∷ [];
}

-- after such a run an agent has made at most as many exchanges as suffice, and has ended if it has made as many
abbrev pub StaysInBound : AgentState → RunSoFar → Type 0
StaysInBound a run = (present : List ℕ) → IsUndisturbed present run
    → (a.frames ≤ enough_by run.search present run.kind run.known)
    × (a.frames ≡ enough_by run.search present run.kind run.known → next_op a ≡ End)

-- at most this many exchanges are made, the run has ended once they are made, and it ends without fault
pub record EndsWithin (most : ℕ) (b : AgentState) : Type 0 where
  pub at_most : b.frames ≤ most
  pub ends : b.frames ≡ most → next_of b ≡ None
  pub no_fault : next_of b ≡ None → fault_of b.phase ≡ None

-- each run with this search on a calm line, with the budget that suffices, ends like this
abbrev pub EndsInBoundBy : Search → Type 0
EndsInBoundBy search = OfEachRun search (λ kind known budget x b. (present : List ℕ) → IsCalm present x
    → enough_by search present kind known ≤ budget → EndsWithin (enough_by search present kind known) b)

-- how many branches in a row are disturbed, if n were before this exchange; anything else than a branch ends the row
abbrev pub disturbed_row : List ℕ → LineState → ℕ → Asked → Heard → ℕ
disturbed_row present old n (Branch lo hi) heard =
    if is_disturbed present old (Branch lo hi) heard then n + 1 else 0
disturbed_row present old n (Mute u) heard = 0
disturbed_row present old n Unmute heard = 0
disturbed_row present old n Other heard = 0

-- never more than seven branches in a row are disturbed
abbrev pub FewDisturbed : (present : List ℕ) (old : LineState) (n : ℕ) (x : List Seen)
    → Chain (NoisyStep present) old x → Type 0
FewDisturbed present old n [] chain = Unit {0}
FewDisturbed present old n (e ∷ x) (inl failed) = Unit {0}
FewDisturbed present old n (e ∷ x) (inr step) = (disturbed_row present old n e.asked e.heard ≤ 7)
    × FewDisturbed present step.0 (disturbed_row present old n e.asked e.heard) x step.2

-- a noisy line with these devices, w of whose exchanges are disturbed, without a failure; a run can report all of them
pub record IsNoisy (present : List ℕ) (w : ℕ) (x : List Seen) : Type 0 where
  pub noisy : NoisyTraceWith present w x
  pub few_in_a_row : FewDisturbed present (before_run noisy.0.1) 0 x noisy.0.2
  pub few : length present ≤ 1024
  pub no_failure : AllByRecursion (λ e. e.heard ≢ Failed) x

-- what suffices for a quick run on such a line
abbrev pub enough_in_noise : List ℕ → Kind → List ℕ → ℕ → ℕ
enough_in_noise present kind known w = enough_by Quick present kind known + 15 * w

-- a quick run on such a line that wasn't aborted, and has the budget that suffices
pub record IsInNoise (present : List ℕ) (w : ℕ) (run : RunSoFar) : Type 0 where
  pub line : IsNoisy present w run.exchanges
  pub quick : run.search ≡ Quick
  pub not_aborted : run.aborted ≡ false
  pub budgeted : enough_in_noise present run.kind run.known w ≤ run.budget

-- Each quick run on such a line ends like this, with the budget that suffices. Never more than seven branches in a row
-- are disturbed.
abbrev pub EndsInNoisyBound : Type 0
EndsInNoisyBound = OfEachRun Quick (λ kind known budget x b. (present : List ℕ) (w : ℕ) → IsNoisy present w x
    → enough_in_noise present kind known w ≤ budget → EndsWithin (enough_in_noise present kind known w) b)

-- each run with the steady search ends like this
abbrev pub EndsInBound : Type 0
EndsInBound = OfEachRun Steady (λ kind known budget x b. (present : List ℕ)
    → IsCalm present x → enough_for present kind known ≤ budget → EndsWithin (enough_for present kind known) b)

-- each run with the default budget ends like this, if the known UIDs fit into a set
abbrev pub EndsByDefault : Type 0
EndsByDefault = OfEachRun Steady (λ kind known budget x b. (present : List ℕ)
    → IsCalm present x → length known ≤ 1024 → budget ≡ DEFAULT_BUDGET → EndsWithin (enough_for present kind known) b)
