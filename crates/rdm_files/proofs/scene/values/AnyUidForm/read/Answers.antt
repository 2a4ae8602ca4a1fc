use Rattle.serde_json.specs.View.{view}
use Rattle.rdm_files.proofs.FormLemmas.{no_uid}
use Rattle.rdm_files.proofs.scene.values.AnyUidForm.read.Goals as goal

pub returns-in-Err : goal.returns-in-Err
returns-in-Err c other =
    no_uid (view c.args.value.now) c.in-Some.text.now c.in-Some.ensures
    (λ u text. let read = (c.in-Err.ensures.ok u).1 text in cc)
