-- The devices of a scene file, by whether they are there for the whole scene.
use Rattle.std.specs.Prelude.{◌≡◌, ◌==◌, ◌&&◌, Bool, not, List, [], filter, is_some, codes}
use Rattle.serde_json.specs.Data.{Data}
use Rattle.rdm_line.specs.Scenes.{uids_of_scene}
use Rattle.rdm_line.specs.declared.scene.SceneDevice.{SceneDevice}
use Rattle.rdm_files.specs.Forms.{IsListOf, MayHave}
use Rattle.rdm_files.specs.SceneFiles.{IsDeviceOf, IsSceneFile}
use Rattle.rdm_files.specs.declared.scene.file.SceneFile.{SceneFile}
use Rattle.rdm_files.specs.declared.scene.rig.RigFile.{RigFile}

-- whether a device is on the line from the start, and never leaves
abbrev pub stays : SceneDevice → Bool
stays d = (d.from == 0) && not (is_some d.until)

-- the file has a scene, and these are the UIDs of its devices: of those that stay, and of those that come or leave
pub record IsRigFile (d : Data) (rig : RigFile) : Type 0 where
  pub scene : SceneFile
  pub is_scene : IsSceneFile d scene
  pub devices : List SceneDevice
  pub listed : MayHave (codes "devices") (IsListOf SceneDevice IsDeviceOf 0 1024) [] d devices
  pub staying : rig.staying.items ≡ uids_of_scene (filter stays devices)
  pub passing : rig.passing.items ≡ uids_of_scene (filter (λ x. not (stays x)) devices)
