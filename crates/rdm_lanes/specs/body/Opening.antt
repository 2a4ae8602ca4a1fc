-- New clients with their lanes.
use Rattle.std.specs.Prelude.{◌≡◌, ℕ, false, List, [], length, Some}
use Rattle.std.specs.Prelude.{slice_get}
use Rattle.rtrb.specs.Ring.{sent as pushed, received as popped}
use Rattle.rdm_lanes.specs.declared.views.history.ViewHistory.{Ghosts}
use Rattle.rdm_lanes.specs.declared.client.RingClient.{RingClient}
use Rattle.rdm_lanes.specs.declared.worker.lane.Lane.{Lane}
use Rattle.rdm_lanes.specs.Pairs.{ArePair, client_rings}
use Rattle.rdm_lanes.specs.Opened.{IsNew}

module _ {J : Type 0} {h : Ghosts J} {C A : Type 0} where
  -- a new client with its lane
  pub record IsNewWith (ring places : ℕ) (client : RingClient J C A h) (lane : Lane) : Type 0 where
    pub new : IsNew ring places client
    pub nothing_received : popped lane.calls ≡ []
    pub nothing_moved : pushed lane.replies ≡ []
    pub has_places : lane.places ≡ places
    pub no_requests : lane.requests ≡ 0
    pub no_asks : lane.asks ≡ 0
    pub not_received : lane.left ≡ false
    pub pair : ArePair (client_rings client) lane

  -- with their lanes
  pub record AreNewWith (ring : ℕ) (places : List ℕ) (clients : List (RingClient J C A h)) (lanes : List Lane)
      : Type 0 where
    pub clients_long : length clients ≡ length places
    pub lanes_long : length lanes ≡ length places
    pub each : (i p : ℕ) (client : RingClient J C A h) (lane : Lane) → slice_get places i ≡ Some p
        → slice_get clients i ≡ Some client → slice_get lanes i ≡ Some lane → IsNewWith ring p client lane

  -- no client holds a callback
  pub record HoldNothing (clients : List (RingClient J C A h)) : Type 0 where
    pub each : (i : ℕ) (client : RingClient J C A h) → slice_get clients i ≡ Some client
        → (client.desk.requests ≡ []) × (client.desk.asks ≡ [])
