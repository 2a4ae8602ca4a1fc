-- Scene files: what each key means, and its default.
use Rattle.std.specs.Prelude.{◌≡◌, ℕ, Bool, false, nat_le, List, [], ◌∷◌, fold, Option, Some, None, codes}
use Rattle.arrayvec.specs.ArrayVec.{ArrayVec}
use Rattle.serde_json.specs.Data.{Data}
use Rattle.serde_json.specs.Find.{get, as_str}
use Rattle.rdm_wire.specs.Uid.{has, set_of}
use Rattle.rdm_line.specs.Parameters.{ParameterState}
use Rattle.rdm_line.specs.Scenes.{uids_of_scene, with_scene_device}
use Rattle.rdm_line.specs.declared.collision.Collision.{Collision}
use Rattle.rdm_line.specs.declared.collision.Collision.TheVariants.{Or, Uid, Bytes}
use Rattle.rdm_line.specs.declared.scene.SceneDevice.{SceneDevice}
use Rattle.rdm_files.specs.Forms.{IsWhole, IsUid, IsOwnUid, IsFourDigits, IsBytesText, IsListOf, Has, MayHave, MayGive}
use Rattle.rdm_files.specs.declared.scene.file.SceneFile.{SceneFile}

-- a part of a parameter's data: at most 231 bytes
abbrev pub IsPart : Data → ArrayVec ℕ → Type 0
IsPart d part = IsBytesText 0 231 d part.items

-- a parameter of a device; its first part is sent next
pub record IsParameter (d : Data) (p : ParameterState) : Type 0 where
  pub pid : Has (codes "pid") IsFourDigits d p.pid
  pub parts : Has (codes "parts") (IsListOf (ArrayVec ℕ) IsPart 1 512) d p.parts
  pub next : p.next ≡ 0

-- a list of any length
abbrev pub any_length : ℕ
any_length = 0xffffffffffffffff

-- whether a device leaves before it comes, or as it comes
abbrev pub leaves_first : ℕ → Option ℕ → Bool
leaves_first from None = false
leaves_first from (Some end) = nat_le end from

-- a device, which comes before it leaves
pub record IsDeviceOf (d : Data) (device : SceneDevice) : Type 0 where
  pub uid : Has (codes "uid") IsOwnUid d device.device.uid
  pub preamble : MayHave (codes "preamble") (IsWhole 0 7) 7 d device.preamble
  pub params : MayHave (codes "params") (IsListOf ParameterState IsParameter 0 any_length) [] d device.params
  pub control : MayHave (codes "control") IsFourDigits 0 d device.device.control
  pub binding : MayGive (codes "binding") IsOwnUid d device.device.binding
  pub from : MayHave (codes "from") (IsWhole 0 1000000000) 0 d device.from
  pub until : MayGive (codes "until") (IsWhole 1 1000000000) d device.until
  pub comes_first : leaves_first device.from device.until ≡ false

-- no UID occurs twice
abbrev pub AllDiffer : List ℕ → Type 0
AllDiffer [] = Unit {0}
AllDiffer (u ∷ us) = (has us u ≡ false) × AllDiffer us

-- devices, ascending by UID
abbrev pub in_uid_order : List SceneDevice → List SceneDevice
in_uid_order devices = fold (λ ordered d. with_scene_device d ordered) [] devices

-- the devices, at most 1,024, in any order, no two with the same UID
pub record AreDevices (d : Data) (devices : List SceneDevice) : Type 0 where
  pub listed : List SceneDevice
  pub list : IsListOf SceneDevice IsDeviceOf 0 1024 d listed
  pub differ : AllDiffer (uids_of_scene listed)
  pub ordered : devices ≡ in_uid_order listed

-- what results from a collision
abbrev pub IsCollision : Data → Collision → Type 0
IsCollision d Or = as_str d ≡ Some (codes "or")
IsCollision d (Uid u) = Has (codes "uid") IsUid d u × (get (codes "bytes") d ≡ None)
IsCollision d (Bytes bytes) = Has (codes "bytes") (IsBytesText 1 257) d bytes × (get (codes "uid") d ≡ None)

-- the number of an exchange
abbrev pub IsExchange : Data → ℕ → Type 0
IsExchange = IsWhole 0 0xffffffffffffffff

-- known UIDs, at most 1,024, in any order and with repeats
pub record AreKnown (d : Data) (known : List ℕ) : Type 0 where
  pub listed : List ℕ
  pub list : IsListOf ℕ IsOwnUid 0 1024 d listed
  pub set : known ≡ set_of listed

-- the file's scene, the known devices of an incremental run, and the budget
pub record IsSceneFile (d : Data) (f : SceneFile) : Type 0 where
  pub source : Has (codes "source") IsOwnUid d f.scene.source
  pub devices : MayHave (codes "devices") AreDevices [] d f.scene.devices
  pub collisions : MayHave (codes "collisions") (IsListOf Collision IsCollision 0 any_length) []
      d f.scene.collisions.items
  pub losses : MayHave (codes "losses") (IsListOf ℕ IsExchange 0 any_length) [] d f.scene.losses.items
  pub fails : MayHave (codes "fails") (IsListOf ℕ IsExchange 0 any_length) [] d f.scene.fails.items
  pub known : MayHave (codes "known") AreKnown [] d f.known
  pub budget : MayHave (codes "budget") (IsWhole 1 1000000000) 384008 d f.budget
