-- The invariant of `SimLine`: what holds for the state of each such value.
use Rattle.std.specs.Prelude.{◌≡◌, ℕ, ◌<◌, ◌≤◌, true, List, Option, Some, option_map}
use Rattle.std.specs.List.Sorted.{IsNonDecreasing}
use Rattle.rdm_wire.specs.Uid.{has, IsDeviceSet}
use Rattle.rdm_line.specs.Scenes.{IsScene, uids_of_scene, find_device}
use Rattle.rdm_line.specs.declared.scene.SceneDevice.{SceneDevice}

-- the exchange at which the device with this UID comes
abbrev pub from_of : List SceneDevice → ℕ → Option ℕ
from_of devices u = option_map (λ (d : SceneDevice). d.from) (find_device devices u)

-- the devices, lists and counts of a `SimLine` value. Not every record `SimState` is the state of such a value
pub record IsSound (devices : List SceneDevice) (muted losses fails : List ℕ) (exchanges failures : ℕ) : Type 0 where
  pub scene : IsScene devices
  pub muted_set : IsDeviceSet muted
  -- the muted UIDs are those of devices
  pub present : (u : ℕ) → has muted u ≡ true → has (uids_of_scene devices) u ≡ true
  -- and these devices have come
  pub came : (u from : ℕ) → has muted u ≡ true → from_of devices u ≡ Some from → from < exchanges
  pub losses_ascend : IsNonDecreasing losses
  pub fails_ascend : IsNonDecreasing fails
  pub few_failures : failures ≤ exchanges
