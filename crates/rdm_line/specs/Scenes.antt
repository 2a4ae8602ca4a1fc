-- The devices of a scene.
use Rattle.std.specs.Prelude.{option_and_then, ◌≡◌, ℕ, ◌≤◌, Bool, true, ◌&&◌, ◌==◌, List, [], ◌∷◌, length, map, filter}
use Rattle.std.specs.Prelude.{Option, Some, None, nat_lt, nat_le, if◌then◌else◌}
use Rattle.std.specs.List.{AllByRecursion}
use Rattle.rdm_wire.specs.Uid.{IsDeviceSet}
use Rattle.rdm_line.specs.Parameters.{sent_of}
use Rattle.rdm_line.specs.declared.scene.SceneDevice.{SceneDevice}

-- the devices' UIDs
abbrev pub uids_of_scene : List SceneDevice → List ℕ
uids_of_scene devices = map (λ d. d.device.uid) devices

-- whether an exchange is before the end; always, if there is no end
abbrev pub is_before : ℕ → Option ℕ → Bool
is_before i None = true
is_before i (Some end) = nat_lt i end

-- whether a device is present at exchange i
abbrev pub is_present : ℕ → SceneDevice → Bool
is_present i d = nat_le d.from i && is_before i d.until

-- the fields of a scene's device are in their ranges
pub record IsSceneDevice (d : SceneDevice) : Type 0 where
  pub preamble : d.preamble ≤ 7
  pub from : d.from ≤ 1000000000

-- the devices of a scene: ascending by UID, and at most 1,024
pub record IsScene (devices : List SceneDevice) : Type 0 where
  pub uids : IsDeviceSet (uids_of_scene devices)
  pub few : length devices ≤ 1024
  pub each : AllByRecursion IsSceneDevice devices

-- the devices with this one added, ascending by UID
abbrev pub with_scene_device : SceneDevice → List SceneDevice → List SceneDevice
with_scene_device d [] = d ∷ []
with_scene_device d (e ∷ es) = if nat_lt e.device.uid d.device.uid then e ∷ with_scene_device d es else d ∷ e ∷ es

-- the UIDs of the devices that are present at exchange i
abbrev pub present_at : List SceneDevice → ℕ → List ℕ
present_at devices i = uids_of_scene (filter (is_present i) devices)

-- the device with this UID
abbrev pub find_device : List SceneDevice → ℕ → Option SceneDevice
find_device [] u = None
find_device (d ∷ ds) u = if d.device.uid == u then Some d else find_device ds u

-- the device with this UID, if it is present at exchange i
abbrev pub device_at : ℕ → List SceneDevice → ℕ → Option SceneDevice
device_at i devices u = option_and_then (λ d. if is_present i d then Some d else None) (find_device devices u)

-- the devices after the one with this UID has sent the next part of this parameter
abbrev pub sent_by : ℕ → ℕ → List SceneDevice → List SceneDevice
sent_by u pid [] = []
sent_by u pid (d ∷ ds) =
    if d.device.uid == u then record d { params = sent_of pid d.params } ∷ ds else d ∷ sent_by u pid ds

-- a device that is on the line from the start and never leaves
pub record Stays (d : SceneDevice) : Type 0 where
  pub from_start : d.from ≡ 0
  pub never : d.until ≡ None
