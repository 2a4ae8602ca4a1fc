-- The indices of a scene's devices, ascending by UID.
use Rattle.std.specs.Prelude.{◌≡◌, ℕ, Bool, true, false, List, Option, Some, None, ◌==◌, nat_lt, slice_get}
use Rattle.std.specs.List.{prefix_len}
use Rattle.rdm_line.specs.Scenes.{find_device}
use Rattle.rdm_line.specs.declared.scene.SceneDevice.{SceneDevice}

-- how many devices have a smaller UID: the index of the one with this UID
abbrev pub index_in : List SceneDevice → ℕ → ℕ
index_in devices u = prefix_len (λ d. nat_lt d.device.uid u) devices

-- whether the device at this index has this UID
abbrev pub has_at : ℕ → ℕ → List SceneDevice → Bool
has_at index u devices = has_uid (slice_get devices index)
  where
    has_uid : Option SceneDevice → Bool
    has_uid None = false
    has_uid (Some d) = d.device.uid == u

-- the device with this UID is found at this index
pub record IsFoundAt (index u : ℕ) (devices : List SceneDevice) : Type 0 where
  pub is_index : index ≡ index_in devices u
  pub there : has_at index u devices ≡ true
  pub found : find_device devices u ≡ slice_get devices index

-- there is no device with this UID, and one would have this index
pub record IsFreeAt (index u : ℕ) (devices : List SceneDevice) : Type 0 where
  pub is_index : index ≡ index_in devices u
  pub free : has_at index u devices ≡ false
