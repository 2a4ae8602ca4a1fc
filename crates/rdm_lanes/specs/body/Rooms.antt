-- Capacity that is reserved before the bodies of a session run.
use Rattle.std.specs.Prelude.{◌≡◌, ℕ, ◌≤◌, [], vec_capacity}
use Rattle.rdm_lanes.specs.declared.views.history.ViewHistory.{Ghosts}
use Rattle.rdm_lanes.specs.declared.opening.rooms.Rooms.{Rooms}

module _ {J : Type 0} {h : Ghosts J} {B C A : Type 0} where
  pub record HasRoomFor (count : ℕ) (rooms : Rooms J B C A h) : Type 0 where
    pub no_seats : rooms.seats.items ≡ []
    pub no_ends : rooms.ends.items ≡ []
    pub no_bodies : rooms.bodies.items ≡ []
    pub seats_fit : count ≤ vec_capacity rooms.seats
    pub ends_fit : count ≤ vec_capacity rooms.ends
    pub bodies_fit : count ≤ vec_capacity rooms.bodies
