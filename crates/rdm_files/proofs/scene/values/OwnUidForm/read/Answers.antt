use Rattle.std.proofs.Common.{ap, ◌∙◌, true≢false}
use Rattle.serde_json.specs.View.{view}
use Rattle.rdm_wire.specs.Uid.{is_broadcast}
use Rattle.rdm_files.proofs.FormLemmas.{one_uid}
use Rattle.rdm_files.proofs.scene.values.OwnUidForm.read.Goals as goal

pub returns-in-Ok : goal.returns-in-Ok
returns-in-Ok c other u own =
    true≢false (c.if-is_broadcast.ensures
    ∙ ap is_broadcast (one_uid (view c.args.value.now) c.in-Ok.uid u c.in-Ok.ensures own.uid) ∙ own.own)

pub returns-in-Err : goal.returns-in-Err
returns-in-Err c other u own = c.in-Err.ensures other u own.uid
