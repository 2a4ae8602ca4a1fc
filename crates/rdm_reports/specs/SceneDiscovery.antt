-- Discovery runs on a simulated line.
use Rattle.std.specs.Prelude.{◌≡◌, ℕ, ◌<◌, ◌≤◌, ◌^◌, true, List, [], map, Result, IfOk, IfErr, IsOkAnd}
use Rattle.std.specs.List.{AllByRecursion}
use Rattle.std.specs.List.Sorted.{IsPermutation}
use Rattle.rdm_wire.specs.Uid.{has}
use Rattle.rdm_wire.specs.Devices.{uids_of}
use Rattle.rdm_wire.specs.declared.device.Device.{Device}
use Rattle.rdm_agent.specs.Bound.{enough_by}
use Rattle.rdm_agent.specs.declared.kind.Kind.{Kind}
use Rattle.rdm_agent.specs.declared.search.Search.{Search}
use Rattle.rdm_agent.specs.declared.fault.AgentFault.{AgentFault}
use Rattle.rdm_line.specs.Scenes.{Stays, present_at, uids_of_scene}
use Rattle.rdm_line.specs.Sim.{SimState, SimStep}
use Rattle.rdm_line.specs.SimSteps.{Step, AreSteps}
use Rattle.rdm_line.specs.declared.scene.Scene.{Scene}
use Rattle.rdm_line.specs.declared.scene.SceneDevice.{SceneDevice}
use Rattle.rdm_reports.specs.Discovery.{IsDiscovery}

-- the line of a scene before its first exchange
pub record IsStartOf (scene : Scene) (s : SimState) : Type 0 where
  pub devices : s.devices ≡ scene.devices
  pub unmuted : s.muted ≡ []
  pub collisions : s.collisions ≡ scene.collisions.items
  pub losses : IsPermutation scene.losses.items s.losses
  pub fails : IsPermutation scene.fails.items s.fails
  pub exchanges : s.exchanges ≡ 0
  pub failures : s.failures ≡ 0

-- a run on a line of this scene reports this, after this many frames
pub record IsSceneDiscovery (scene : Scene) (search : Search) (kind : Kind) (known : List ℕ) (budget : ℕ)
    (found : Result (List Device) (AgentFault × List Device)) (frames : ℕ) : Type 0 where
  pub before : SimState
  pub begins : IsStartOf scene before
  pub after : SimState
  pub discovery : IsDiscovery SimState SimStep scene.source search kind known budget before after found frames
  pub countable : frames < 2 ^ 64
  -- the run's exchanges are those of the line's steps
  pub steps : List Step
  pub steps_are : AreSteps before steps after
  pub exchanges : map (λ (x : Step). x.exchange) steps ≡ discovery.driven.exchanges

-- the device is on the line at each of the first n exchanges
abbrev pub IsAlwaysPresent : List SceneDevice → ℕ → ℕ → Type 0
IsAlwaysPresent devices n u = (i : ℕ) → i < n → has (present_at devices i) u ≡ true

-- the device is on the line at one of the first n exchanges
abbrev pub WasPresent : List SceneDevice → ℕ → ℕ → Type 0
WasPresent devices n u = (i : ℕ) × (i < n) × (has (present_at devices i) u ≡ true)

-- a report after n exchanges has each device that was always present, and only devices that were present. With a fault
-- it also has only devices that were present
pub record IsTrueReport (devices : List SceneDevice) (n : ℕ)
    (found : Result (List Device) (AgentFault × List Device)) : Type 0 where
  pub finds_staying : (u : ℕ) → IsAlwaysPresent devices n u → IfOk found (λ s. has (uids_of s) u ≡ true)
  pub no_stranger : (u : ℕ) → IfOk found (λ s. has (uids_of s) u ≡ true → WasPresent devices n u)
  pub no_stranger_in_fault : (u : ℕ) → IfErr found (λ e. has (uids_of e.1) u ≡ true → WasPresent devices n u)

-- if all devices stay, a report without fault has exactly these devices
abbrev pub FindsAllOf : List SceneDevice → Result (List Device) (AgentFault × List Device) → Type 0
FindsAllOf devices found = AllByRecursion Stays devices → IfOk found (λ s. uids_of s ≡ uids_of_scene devices)

-- if all devices stay, no exchange fails and the budget suffices, there is no fault
abbrev pub HasNoFault : Scene → Search → Kind → List ℕ → ℕ → Result (List Device) (AgentFault × List Device) → Type 0
HasNoFault scene search kind known budget found =
    AllByRecursion Stays scene.devices → scene.fails.items ≡ []
    → enough_by search (uids_of_scene scene.devices) kind known ≤ budget
    → IsOkAnd found (λ s. uids_of s ≡ uids_of_scene scene.devices)

-- what a report shows if the line loses few replies
pub record IsHonestReport (scene : Scene) (search : Search) (kind : Kind) (known : List ℕ) (budget : ℕ)
    (found : Result (List Device) (AgentFault × List Device)) (n : ℕ) : Type 0 where
  pub devices : IsTrueReport scene.devices n found
  pub all : FindsAllOf scene.devices found
  pub no_fault : HasNoFault scene search kind known budget found
