use Rattle.serde_json.specs.View.{view}
use Rattle.rdm_files.proofs.FormLemmas.{passed}
use Rattle.rdm_files.proofs.CollisionForms.{no_bytes}
use Rattle.rdm_files.proofs.scene.collision.read_bytes.Goals as goal

pub returns-in_err-bytes : goal.returns-in_err-bytes
returns-in_err-bytes c =
    passed _ _ _ c.from_residual.ensures.1
    (λ other. no_bytes (view c.args.value.now) c.requires.no_uid c.requires.no_text (c.in_err-bytes.ensures other))
