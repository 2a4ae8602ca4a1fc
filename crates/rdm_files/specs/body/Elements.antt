-- The elements of files that are read one by one.
use Rattle.std.specs.Prelude.{◌≡◌, false, List, ℕ, codes}
use Rattle.serde_json.specs.Data.{Data}
use Rattle.rdm_wire.specs.Uid.{has}
use Rattle.rdm_line.specs.Scenes.{uids_of_scene, with_scene_device}
use Rattle.rdm_line.specs.declared.scene.SceneDevice.{SceneDevice}
use Rattle.rdm_files.specs.SceneFiles.{IsDeviceOf}
use Rattle.rdm_wire.specs.declared.request.ReqClass.{ReqClass}
use Rattle.rdm_files.specs.Forms.{Has}
use Rattle.rdm_files.specs.declared.session.call.ClientCall.{ClientCall}
use Rattle.rdm_files.specs.declared.session.call.ClientCall.TheVariants.{Submit, Discover}
use Rattle.rdm_files.specs.SessionFiles.{IsRequestTo, IsKind}

-- the device is added, ascending by UID, and no other has its UID
pub record IsAdded (d : Data) (old new : List SceneDevice) : Type 0 where
  pub device : SceneDevice
  pub read : IsDeviceOf d device
  pub differs : has (uids_of_scene old) device.device.uid ≡ false
  pub added : new ≡ with_scene_device device old

-- a request of this class, to the UID under this key
abbrev pub IsRequest : List ℕ → ReqClass → Data → ClientCall → Type 0
IsRequest key class d (Submit r) = IsRequestTo key class d r
IsRequest key class d (Discover kind) = ⊥

-- a discovery
abbrev pub IsAsk : Data → ClientCall → Type 0
IsAsk d (Submit r) = ⊥
IsAsk d (Discover kind) = Has (codes "discover") IsKind d kind
