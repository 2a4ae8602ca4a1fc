-- The sets of a client's discoveries, in a ring.
use Rattle.std.specs.Prelude.{◌≡◌, ◌⊎◌, ℕ, ◌<◌, ◌≤◌, List, ◌++◌, take, drop}
use Rattle.rdm_wire.specs.declared.device.Device.{Device}

-- the sets that are held, oldest first, and the ring's capacity
pub record SetsHeld : Type 0 where
  pub items : List (List Device)
  pub room : ℕ

-- this many of the ring's sets, from the first on
abbrev pub held : ℕ → ℕ → List (List Device) → List (List Device)
held first count sets = take count (drop first sets ++ take first sets)

-- all that are held fit; the capacity is four, or none
pub record IsRing (first count room : ℕ) : Type 0 where
  pub few : count ≤ room
  pub sized : ((room ≡ 4) × (first < 4)) ⊎ (room ≡ 0)
