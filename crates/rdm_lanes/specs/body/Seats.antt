-- Clients beside their bodies, and the rings that they keep.
use Rattle.std.specs.Prelude.{◌≡◌, ℕ, ◌<◌, List, length, map, Some, slice_get, slice_index_or}
use Rattle.rtrb.specs.Ring.{SameProducer, SameConsumer, producer_capacity, consumer_capacity}
use Rattle.rdm_lanes.specs.declared.views.history.ViewHistory.{Ghosts}
use Rattle.rdm_lanes.specs.declared.worker.lane.Lane.{Lane}
use Rattle.rdm_lanes.specs.declared.opening.seat.Seat.{Seat}
use Rattle.rdm_lanes.specs.Clients.{SameClient}
use Rattle.rdm_lanes.specs.Pairs.{Rings, RingsPair, client_rings}

-- each end still belongs to the same ring
pub record SameRings (old new : List Rings) : Type 0 where
  pub long : length new ≡ length old
  pub each : (i : ℕ) (a b : Rings) → slice_get old i ≡ Some a → slice_get new i ≡ Some b
      → SameProducer a.0 b.0 × SameConsumer a.1 b.1

-- both rings of each client have this many slots
pub record RingsHaveSlots (slots : ℕ) (all : List Rings) : Type 0 where
  pub each : (i : ℕ) (rings : Rings) → slice_get all i ≡ Some rings
      → (producer_capacity rings.0 ≡ slots) × (consumer_capacity rings.1 ≡ slots)

module _ {J : Type 0} {h : Ghosts J} {B C A : Type 0} where
  abbrev pub seat_rings : Seat J B C A h → Rings
  seat_rings seat = client_rings seat.client

  -- the rings of the clients beside their bodies are those of the lanes, each at its index
  abbrev pub SeatsPair : List Lane → List (Seat J B C A h) → Type 0
  SeatsPair lanes seats = RingsPair lanes (map seat_rings seats)

  -- each seat's client still has the same rings
  pub record SameSeats (old new : List (Seat J B C A h)) : Type 0 where
    pub long : length new ≡ length old
    pub each : (i : ℕ) (d : Seat J B C A h) → i < length old
        → SameClient (slice_index_or old i d).client (slice_index_or new i d).client
