-- Calls, clients and sessions that a value doesn't say.
use Rattle.std.proofs.Common.{◌≡◌, ℕ, Bool, true, false, List, [], Option, Some, Result, Ok, Err, codes, refl}
use Rattle.std.proofs.Common.{sym, ap, subst}
use Rattle.arrayvec.specs.ArrayVec.{ArrayVec}
use Rattle.serde_json.specs.Data.{Data}
use Rattle.rdm_wire.specs.declared.request.ReqClass.{ReqClass}
use Rattle.rdm_wire.specs.declared.request.ReqClass.TheVariants as classes
use Rattle.rdm_files.specs.Forms.{Reads, IsWhole, IsUid, IsBytesText, Has, MayHave}
use Rattle.rdm_line.specs.declared.scene.Scene.{Scene}
use Rattle.rdm_files.specs.SceneFiles.{IsSceneFile}
use Rattle.rdm_files.specs.SessionFiles.{IsRequestTo, IsKind, IsSubmit, IsCall, HasNeither, IsSessionLine}
use Rattle.rdm_files.specs.body.Elements.{IsRequest, IsAsk}
use Rattle.rdm_files.specs.declared.session.call.ClientCall.{ClientCall}
use Rattle.rdm_files.specs.declared.session.call.ClientCall.TheVariants.{Submit, Discover}
use Rattle.rdm_files.specs.declared.scene.fault.SceneFault.{SceneFault}
use Rattle.rdm_files.specs.declared.scene.file.SceneFile.{SceneFile}
use Rattle.rdm_files.proofs.FormLemmas.{absent, by_default}

pub no_sub : (key : List ℕ) (class : ReqClass) (d : Data)
    → ((n : ℕ) → MayHave (codes "sub") (IsWhole 0 65535) 0 d n → ⊥) → (call : ClientCall) → IsRequest key class d call
    → ⊥
no_sub key class d none (Submit r) h = none r.sub_device h.sub
no_sub key class d none (Discover kind) h = absurd h

pub no_param : (key : List ℕ) (class : ReqClass) (d : Data) (default : ArrayVec ℕ) → default.items ≡ []
    → ((p : ArrayVec ℕ) → MayHave (codes "param") (λ v (b : ArrayVec ℕ). IsBytesText 0 231 v b.items) default d p → ⊥)
    → (call : ClientCall) → IsRequest key class d call → ⊥
no_param key class d default is none (Submit r) h =
    none r.param (by_default (codes "param") (λ v (b : ArrayVec ℕ). IsBytesText 0 231 v b.items) (record { items = [] })
    default d r.param (ap (λ items. record { items = items }) (sym is)) h.param)
no_param key class d default is none (Discover kind) h = absurd h

-- a call with the key `get` alone is a request of that class, and says nothing else; so are the others
pub is_get : (d : Data) (call : ClientCall) → HasNeither (codes "set") (codes "discover") d
    → IsRequest (codes "get") classes.Get d call → IsCall d call
is_get d (Submit r) neither h = subst (λ k. IsSubmit d k r) (sym h.class_is) (h, neither)
is_get d (Discover kind) neither h = absurd h

pub is_set : (d : Data) (call : ClientCall) → HasNeither (codes "get") (codes "discover") d
    → IsRequest (codes "set") classes.Set d call → IsCall d call
is_set d (Submit r) neither h = subst (λ k. IsSubmit d k r) (sym h.class_is) (h, neither)
is_set d (Discover kind) neither h = absurd h

pub is_ask : (d : Data) (call : ClientCall) → HasNeither (codes "get") (codes "set") d → IsAsk d call → IsCall d call
is_ask d (Submit r) neither h = absurd h
is_ask d (Discover kind) neither h = (h, neither)

-- what a call says, where only one of the keys is there
pub only_get : (d : Data) (call : ClientCall) → HasNeither (codes "set") (codes "discover") d → IsCall d call
    → IsRequest (codes "get") classes.Get d call
only_get d (Submit r) neither h = by_class r.class h
  where
    by_class : (k : ReqClass) → IsSubmit d k r → IsRequestTo (codes "get") classes.Get d r
    by_class classes.Get s = s.0
    by_class classes.Set s = absurd (absent (codes "set") IsUid d r.target neither.0 s.0.target)
only_get d (Discover kind) neither h = absurd (absent (codes "discover") IsKind d kind neither.1 h.0)

pub only_set : (d : Data) (call : ClientCall) → HasNeither (codes "get") (codes "discover") d → IsCall d call
    → IsRequest (codes "set") classes.Set d call
only_set d (Submit r) neither h = by_class r.class h
  where
    by_class : (k : ReqClass) → IsSubmit d k r → IsRequestTo (codes "set") classes.Set d r
    by_class classes.Get s = absurd (absent (codes "get") IsUid d r.target neither.0 s.0.target)
    by_class classes.Set s = s.0
only_set d (Discover kind) neither h = absurd (absent (codes "discover") IsKind d kind neither.1 h.0)

pub only_ask : (d : Data) (call : ClientCall) → HasNeither (codes "get") (codes "set") d → IsCall d call → IsAsk d call
only_ask d (Submit r) neither h = by_class r.class h
  where
    by_class : (k : ReqClass) → IsSubmit d k r → IsAsk d (Submit r)
    by_class classes.Get s = absent (codes "get") IsUid d r.target neither.0 s.0.target
    by_class classes.Set s = absent (codes "set") IsUid d r.target neither.1 s.0.target
only_ask d (Discover kind) neither h = h.0

-- a reader of P is one of Q, where they say the same
pub reads_same : {A : Type 0} (r : Result A SceneFault) (P Q : A → Type 0) → ((x : A) → P x → Q x)
    → ((x : A) → Q x → P x) → Reads r P → Reads r Q
reads_same (Ok x) P Q to back h = to x h
reads_same (Err e) P Q to back h = λ other x q. h other x (back x q)

-- the line of a session's scene, and the caller's own without a budget
pub scene_line : (own_line : Bool) (d : Data) (file : SceneFile) → own_line ≡ false
    → Has (codes "scene") IsSceneFile d file
    → IsSessionLine own_line d (Some file.scene) file.scene.source file.budget
scene_line false d file is has = record { file = file; reads = has; scene = refl; source = refl; budget = refl }
scene_line true d file is has = cc

pub no_budget : (own_line : Bool) (d : Data) → own_line ≡ true
    → ((n : ℕ) → MayHave (codes "budget") (IsWhole 1 1000000000) 384008 d n → ⊥) → (scene : Option Scene)
    (source budget : ℕ) → IsSessionLine own_line d scene source budget → ⊥
no_budget false d is none scene source budget line = cc
no_budget true d is none scene source budget line = none budget line.budget
