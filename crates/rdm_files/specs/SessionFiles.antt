-- Session files: what each key means, and its default.
use Rattle.std.specs.Prelude.{◌≡◌, ℕ, Bool, true, false, List, [], Option, None, Some, codes}
use Rattle.serde_json.specs.Data.{Data}
use Rattle.serde_json.specs.Find.{get, as_str}
use Rattle.rdm_wire.specs.declared.request.ReqClass.{ReqClass}
use Rattle.rdm_wire.specs.declared.request.ReqClass.TheVariants as classes
use Rattle.rdm_wire.specs.declared.request.Request.{Request}
use Rattle.rdm_agent.specs.declared.search.Search.{Search}
use Rattle.rdm_agent.specs.declared.search.Search.TheVariants.{Steady, Quick}
use Rattle.rdm_agent.specs.declared.kind.Kind.{Kind}
use Rattle.rdm_agent.specs.declared.kind.Kind.TheVariants.{Full, Incremental}
use Rattle.rdm_line.specs.declared.scene.Scene.{Scene}
use Rattle.rdm_files.specs.Forms.{IsWhole, IsUid, IsOwnUid, IsFourDigits, IsBytesText, IsListOf, Has, MayHave}
use Rattle.rdm_files.specs.SceneFiles.{IsSceneFile, any_length}
use Rattle.rdm_files.specs.declared.scene.file.SceneFile.{SceneFile}
use Rattle.rdm_files.specs.declared.session.call.ClientCall.{ClientCall}
use Rattle.rdm_files.specs.declared.session.call.ClientCall.TheVariants.{Submit, Discover}
use Rattle.rdm_files.specs.declared.session.client.ClientFile.{ClientFile}
use Rattle.rdm_files.specs.declared.session.file.SessionFile.{SessionFile}

-- a request of this class, to the UID under this key
pub record IsRequestTo (key : List ℕ) (class : ReqClass) (d : Data) (r : Request) : Type 0 where
  pub target : Has key IsUid d r.target
  pub class_is : r.class ≡ class
  pub pid : Has (codes "pid") IsFourDigits d r.pid
  pub sub : MayHave (codes "sub") (IsWhole 0 65535) 0 d r.sub_device
  pub param : MayHave (codes "param") (λ v p. IsBytesText 0 231 v p.items) (record { items = [] }) d r.param

-- the text `full` or `incremental`
abbrev pub IsKind : Data → Kind → Type 0
IsKind d Full = as_str d ≡ Some (codes "full")
IsKind d Incremental = as_str d ≡ Some (codes "incremental")

-- these two keys are absent
abbrev pub HasNeither : List ℕ → List ℕ → Data → Type 0
HasNeither one other d = (get one d ≡ None) × (get other d ≡ None)

-- a request, by its class
abbrev pub IsSubmit : Data → ReqClass → Request → Type 0
IsSubmit d classes.Get r =
    IsRequestTo (codes "get") classes.Get d r × HasNeither (codes "set") (codes "discover") d
IsSubmit d classes.Set r =
    IsRequestTo (codes "set") classes.Set d r × HasNeither (codes "get") (codes "discover") d

-- a call has one of the keys `get`, `set` and `discover`
abbrev pub IsCall : Data → ClientCall → Type 0
IsCall d (Submit r) = IsSubmit d r.class r
IsCall d (Discover kind) = Has (codes "discover") IsKind d kind × HasNeither (codes "get") (codes "set") d

-- a client, with its calls in order
pub record IsClient (d : Data) (c : ClientFile) : Type 0 where
  pub places : Has (codes "places") (IsWhole 1 255) d c.places
  pub calls : Has (codes "calls") (IsListOf ClientCall IsCall 0 any_length) d c.calls.items

-- the text `steady` or `quick`
abbrev pub IsSearch : Data → Search → Type 0
IsSearch d Steady = as_str d ≡ Some (codes "steady")
IsSearch d Quick = as_str d ≡ Some (codes "quick")

-- the scene of a session, with the source and the budget that the scene has
pub record IsSceneLine (d : Data) (simulated : Option Scene) (from frames : ℕ) : Type 0 where
  pub file : SceneFile
  pub reads : Has (codes "scene") IsSceneFile d file
  pub scene : simulated ≡ Some file.scene
  pub source : from ≡ file.scene.source
  pub budget : frames ≡ file.budget

-- the source and the budget that a session has itself, and no scene
pub record IsOwnLine (d : Data) (simulated : Option Scene) (from frames : ℕ) : Type 0 where
  pub absent : get (codes "scene") d ≡ None
  pub scene : simulated ≡ None
  pub source : Has (codes "source") IsOwnUid d from
  pub budget : MayHave (codes "budget") (IsWhole 1 1000000000) 384008 d frames

-- the scene, the source and the budget of a session: those of its scene if the line is simulated, and otherwise the
-- session's keys, without a scene
abbrev pub IsSessionLine : Bool → Data → Option Scene → ℕ → ℕ → Type 0
IsSessionLine false d scene source budget = IsSceneLine d scene source budget
IsSessionLine true d scene source budget = IsOwnLine d scene source budget

-- a session file: its line, which may be the caller's own, 1 to 16 clients, and settings that may be left out
pub record IsSessionFile (own_line : Bool) (d : Data) (f : SessionFile) : Type 0 where
  pub line : IsSessionLine own_line d f.scene f.source f.budget
  pub clients : Has (codes "clients") (IsListOf ClientFile IsClient 1 16) d f.clients.items
  pub ring : MayHave (codes "ring") (IsWhole 1 255) 8 d f.ring
  pub search : MayHave (codes "search") IsSearch Steady d f.search
  pub log : MayHave (codes "log") (IsWhole 0 1000000) 10000 d f.log
  pub turns : MayHave (codes "turns") (IsWhole 1 1000000000) 100000000 d f.turns
