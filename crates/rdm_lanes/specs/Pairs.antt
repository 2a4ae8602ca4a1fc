-- Which ends belong to one ring.
use Rattle.std.specs.Prelude.{◌≡◌, ℕ, List, length, map, Some, slice_get}
use Rattle.std.specs.declared.alloc.Global.{Global}
use Rattle.rtrb.specs.declared.AnyItems.{AnyItems}
use Rattle.rtrb.specs.declared.producer.Producer.{Producer}
use Rattle.rtrb.specs.declared.consumer.Consumer.{Consumer}
use Rattle.rtrb.specs.Ring.{IsPair}
use Rattle.rdm_lanes.specs.declared.views.history.ViewHistory.{Ghosts}
use Rattle.rdm_lanes.specs.declared.call.ClientCall.{ClientCall}
use Rattle.rdm_lanes.specs.declared.ring_outcome.RingOutcome.{RingOutcome}
use Rattle.rdm_lanes.specs.declared.worker.lane.Lane.{Lane}
use Rattle.rdm_lanes.specs.declared.client.RingClient.{RingClient}

-- a client's ends of its two rings
abbrev pub Rings : Type 0
Rings = Producer ClientCall Global AnyItems × Consumer RingOutcome Global AnyItems

-- the other ends are those of the lane
abbrev pub ArePair : Rings → Lane → Type 0
ArePair rings lane = IsPair rings.0 lane.calls × IsPair lane.replies rings.1

-- each lane has the other ends of the rings at its index
pub record RingsPair (lanes : List Lane) (all : List Rings) : Type 0 where
  pub long : length all ≡ length lanes
  pub each : (i : ℕ) (lane : Lane) (rings : Rings) → slice_get lanes i ≡ Some lane → slice_get all i ≡ Some rings
      → ArePair rings lane

module _ {J : Type 0} {h : Ghosts J} {C A : Type 0} where
  -- the rings of a client: for its calls, and for its outcomes
  abbrev pub client_rings : RingClient J C A h → Rings
  client_rings client = (client.calls, client.replies)

  -- the clients' rings are those of the lanes, each at its index
  abbrev pub ClientsPair : List Lane → List (RingClient J C A h) → Type 0
  ClientsPair lanes clients = RingsPair lanes (map client_rings clients)
