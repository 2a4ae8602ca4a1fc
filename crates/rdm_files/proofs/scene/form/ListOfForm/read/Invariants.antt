use Rattle.std.proofs.Common.{take}
use Rattle.serde_json.specs.View.{items_view}
use Rattle.rdm_files.specs.Forms.{Each}
use Rattle.rdm_files.proofs.scene.form.ListOfForm.read.Given as goal

abbrev pub invariant-items : goal.invariant-items
invariant-items g l = Each (g.F.Form.says l.self.form) (items_view (take l.i l.values.items)) l.items.items
