use Rattle.serde_json.specs.View.{view}
use Rattle.rdm_files.proofs.FormLemmas.{passed}
use Rattle.rdm_files.proofs.SessionForms.{no_budget, scene_line}
use Rattle.rdm_files.proofs.session.file.read_line.Goals as goal

pub returns-then-not-own_line : goal.returns-then-not-own_line
returns-then-not-own_line c = scene_line c.args.own_line (view c.args.value.now) c.in_ok-scene.field-0
    c.if-not-own_line.true c.in_ok-scene.ensures

pub returns-in_err-budget : goal.returns-in_err-budget
returns-in_err-budget c =
    passed _ _ _ c.from_residual-in_err-budget.ensures.1
    (λ other line. no_budget c.args.own_line (view c.args.value.now) c.if-not-own_line.false
    (c.in_err-budget.ensures other) line.0 line.1 line.2)
