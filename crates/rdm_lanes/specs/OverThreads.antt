-- Which outcomes of discoveries a client gets in a session over a simulated line.
use Rattle.std.specs.Prelude.{◌≡◌, ◌≤◌, ℕ, true, List, Option, Some, None, slice_get}
use Rattle.rdm_agent.specs.Bound.{enough_by}
use Rattle.rdm_agent.specs.declared.search.Search.TheVariants.{Steady}
use Rattle.rdm_agent.specs.declared.kind.Kind.TheVariants.{Incremental}
use Rattle.rdm_agent.specs.declared.limits.TheConstants.{DEFAULT_BUDGET}
use Rattle.rdm_wire.specs.Uid.{has}
use Rattle.rdm_wire.specs.Devices.{uids_of}
use Rattle.rdm_line.specs.Scenes.{present_at, uids_of_scene}
use Rattle.rdm_line.specs.Sim.{SimState, SimStep}
use Rattle.rdm_log.specs.declared.config.Setup.{Setup}
use Rattle.rdm_log.specs.log.LogState.{LogState}
use Rattle.rdm_log.specs.promises.Outcomes.{Discovered}
use Rattle.rdm_log.specs.promises.Outcomes.OutcomeValue.{DiscoveryValue}
use Rattle.rdm_lanes.specs.declared.views.history.ViewHistory.{Ghosts}
use Rattle.rdm_lanes.specs.declared.client.ends.ClientEnd.{ClientEnd}
use Rattle.rdm_lanes.specs.Ends.{end_got, Agrees}
use Rattle.rdm_lanes.specs.Sessions.{SessionOver}

-- the budget is enough for this search's bound on frames, if all the scene's devices are known
abbrev pub IsEnough : Setup → SimState → Type 0
IsEnough setup s =
    enough_by setup.search (uids_of_scene s.devices) Incremental (uids_of_scene s.devices) ≤ setup.config.budget

-- the budget is the default one, and the search is steady
abbrev pub IsByDefault : Setup → Type 0
IsByDefault setup = (setup.config.budget ≡ DEFAULT_BUDGET) × (setup.search ≡ Steady)

module _ {J : Type 0} {h : Ghosts J} {C A : Type 0} where
  -- the client got this outcome of a discovery
  abbrev pub HasGot : ClientEnd J C A h → Option ℕ → Discovered → Type 0
  HasGot e number done = (i : ℕ) × (slice_get (end_got e) i ≡ Some (DiscoveryValue number done))

  -- a session over the line, and the end of its client c
  pub record IsEndOver (setup : Setup) (room : ℕ) (places : List ℕ) (s t : SimState) (k : LogState)
      (c : ℕ) (e : ClientEnd J C A h) : Type 0 where
    pub session : SessionOver SimStep setup room places s t k
    pub agrees : Agrees c k e

  -- each discovery's outcome without fault has exactly the line's devices
  abbrev pub GetsTheDevices : SimState → ClientEnd J C A h → Type 0
  GetsTheDevices s e = (number : Option ℕ) (done : Discovered) → HasGot e number done → done.fault ≡ None
      → uids_of done.devices ≡ uids_of_scene s.devices

  -- each discovery's outcome is without fault
  abbrev pub GetsNoFault : ClientEnd J C A h → Type 0
  GetsNoFault e = (number : Option ℕ) (done : Discovered) → HasGot e number done → done.fault ≡ None

  -- if devices come and leave: an outcome without fault has each that is always there, and no outcome has one that
  -- never is
  pub record GetsTheChanging (s : SimState) (e : ClientEnd J C A h) : Type 0 where
    pub staying : (number : Option ℕ) (done : Discovered) (u : ℕ) → HasGot e number done → done.fault ≡ None
        → ((i : ℕ) → has (present_at s.devices i) u ≡ true) → has (uids_of done.devices) u ≡ true
    pub no_stranger : (number : Option ℕ) (done : Discovered) (u : ℕ) → HasGot e number done
        → has (uids_of done.devices) u ≡ true → (i : ℕ) × (has (present_at s.devices i) u ≡ true)
