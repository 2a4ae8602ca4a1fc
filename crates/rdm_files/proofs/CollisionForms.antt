-- What comes of a collision, by what its value has.
use Rattle.std.proofs.Common.{◌≡◌, ℕ, None, codes, sym, ◌∙◌}
use Rattle.arrayvec.specs.ArrayVec.{ArrayVec}
use Rattle.serde_json.specs.Data.{Data}
use Rattle.serde_json.specs.Find.{get, as_str}
use Rattle.rdm_line.specs.declared.collision.Collision.{Collision}
use Rattle.rdm_line.specs.declared.collision.Collision.TheVariants.{Or, Uid, Bytes}
use Rattle.rdm_files.specs.Forms.{IsUid, IsBytesText, Has}
use Rattle.rdm_files.specs.SceneFiles.{IsCollision}
use Rattle.rdm_files.proofs.FormLemmas.{absent}

pub no_bytes : (d : Data) → get (codes "uid") d ≡ None → as_str d ≡ None
    → ((bytes : ArrayVec ℕ) → Has (codes "bytes") (λ e (b : ArrayVec ℕ). IsBytesText 1 257 e b.items) d bytes → ⊥)
    → (c : Collision) → IsCollision d c → ⊥
no_bytes d no_uid no_text none Or h = let never = sym no_text ∙ h in cc
no_bytes d no_uid no_text none (Uid u) h = absent (codes "uid") IsUid d u no_uid h.0
no_bytes d no_uid no_text none (Bytes bytes) h = none (record { items = bytes }) h.0
