-- What the discoveries in a log report, if a simulated line made its exchanges.
use Rattle.std.specs.Prelude.{◌≡◌, ℕ, ◌≤◌, true, List, ◌∷◌, ◌++◌, length, Option, Some, None}
use Rattle.std.specs.List.{AllByRecursion}
use Rattle.rdm_wire.specs.Uid.{has}
use Rattle.rdm_wire.specs.Devices.{uids_of}
use Rattle.rdm_wire.specs.Honest.{Seen}
use Rattle.rdm_wire.specs.HonestOver.{HonestOver}
use Rattle.rdm_agent.specs.Bound.{enough_by}
use Rattle.rdm_agent.specs.declared.fault.AgentFault.{AgentFault}
use Rattle.rdm_agent.specs.declared.kind.Kind.TheVariants.{Incremental}
use Rattle.rdm_agent.specs.declared.limits.TheConstants.{DEFAULT_BUDGET}
use Rattle.rdm_agent.specs.declared.search.Search.TheVariants.{Steady}
use Rattle.rdm_line.specs.Events.{Makes}
use Rattle.rdm_line.specs.Scenes.{present_at, uids_of_scene}
use Rattle.rdm_line.specs.Sim.{SimState, SimStep}
use Rattle.rdm_log.specs.declared.entry.Entry.{Entry}
use Rattle.rdm_log.specs.declared.entry.Entry.TheVariants.{Answer}
use Rattle.rdm_log.specs.log.History.{is_closed}
use Rattle.rdm_log.specs.log.Legal.{Legal}
use Rattle.rdm_log.specs.log.LogState.{LogState}
use Rattle.rdm_log.specs.log.Runs.{answer_devices, known_devices, last_run_without_fault}
use Rattle.rdm_log.specs.log.Entries.{exchanges}

-- A legal log over a simulated line. The log's exchanges are the line's steps, from its state s to its state t: the
-- line was asked each frame once, in order, and what came is its own answer.
pub record IsLogOver (s t : SimState) (k : LogState) : Type 0 where
  pub legal : Legal k.opening k.entries
  pub steps : Makes SimState SimStep s (exchanges k.entries) t

-- Exchanges of a line that is honest towards the devices present at each of them. Each of these sets has exactly the
-- scene's devices that are present at some exchange.
pub record IsHonestRun (s : SimState) (x : List Seen) : Type 0 where
  pub sets : List (List ℕ)
  pub honest : HonestOver sets x
  pub present : AllByRecursion (λ devices. (i : ℕ) × (devices ≡ present_at s.devices i)) sets

-- Answers without fault have exactly the line's devices. So have the devices known, once there is such an Answer.
pub record AnswersAreTheDevices (s : SimState) (k : LogState) : Type 0 where
  pub exactly : (front back : List Entry) (n r : ℕ) → k.entries ≡ front ++ Answer n r None ∷ back
      → uids_of (answer_devices r k.entries) ≡ uids_of_scene s.devices
  pub known : (r : ℕ) → last_run_without_fault k.entries ≡ Some r
      → uids_of (known_devices k.opening k.entries) ≡ uids_of_scene s.devices

-- if devices come and leave, an Answer without fault has each that is always there, and none has one that never is
pub record AnswersFollowTheDevices (s : SimState) (k : LogState) : Type 0 where
  pub staying : (front back : List Entry) (n r u : ℕ) → k.entries ≡ front ++ Answer n r None ∷ back
      → ((i : ℕ) → has (present_at s.devices i) u ≡ true) → has (uids_of (answer_devices r k.entries)) u ≡ true
  pub no_stranger : (front back : List Entry) (n r : ℕ) (fault : Option AgentFault) (u : ℕ)
      → k.entries ≡ front ++ Answer n r fault ∷ back → has (uids_of (answer_devices r k.entries)) u ≡ true
      → (i : ℕ) × (has (present_at s.devices i) u ≡ true)

-- no more devices are known at the opening than the scene has, as none are when a session begins
abbrev pub KnowsFew : SimState → LogState → Type 0
KnowsFew s k = length (uids_of k.opening.devices) ≤ length (uids_of_scene s.devices)

-- the budget is at least as large as the bound on frames of the search, if all the scene's devices are known
pub record IsEnough (s : SimState) (k : LogState) : Type 0 where
  pub few : KnowsFew s k
  pub budgeted :
      enough_by k.opening.search (uids_of_scene s.devices) Incremental (uids_of_scene s.devices) ≤ k.opening.budget

-- it is the default budget, and the search is steady
pub record IsByDefault (s : SimState) (k : LogState) : Type 0 where
  pub few : KnowsFew s k
  pub budget : k.opening.budget ≡ DEFAULT_BUDGET
  pub search : k.opening.search ≡ Steady

-- an Answer has a fault only if the queue is closed
abbrev pub FaultsFollowAClose : LogState → Type 0
FaultsFollowAClose k = (front back : List Entry) (n r : ℕ) (fault : AgentFault)
    → k.entries ≡ front ++ Answer n r (Some fault) ∷ back → is_closed k.opening front ≡ true
