-- What a file looks like, judged only by its keys.
use Rattle.std.specs.Prelude.{Bool, true, false, List, ℕ, Option, Some, None, codes, is_some}
use Rattle.serde_json.specs.Data.{Data}
use Rattle.serde_json.specs.Find.{get}
use Rattle.rdm_files.specs.declared.kind.FileKind.{FileKind}
use Rattle.rdm_files.specs.declared.kind.FileKind.TheVariants.{Scene, Session, LineSession}

-- whether an object has the key
abbrev pub has_key : List ℕ → Data → Bool
has_key key d = is_some (get key d)

-- the kind of a file, by whether it has the keys `clients`, `source` and `scene`
abbrev pub kind_with : Bool → Bool → Bool → Option FileKind
kind_with true true false = Some LineSession
kind_with true true true = Some Session
kind_with true false scene = Some Session
kind_with false true false = Some Scene
kind_with false false true = Some Session
kind_with false true true = None
kind_with false false false = None

-- what a file looks like, by the keys `clients`, `source` and `scene`: a scene, a session of one of the two kinds, or
-- none of them
abbrev pub looks_like : Data → Option FileKind
looks_like d = kind_with (has_key (codes "clients") d) (has_key (codes "source") d) (has_key (codes "scene") d)
