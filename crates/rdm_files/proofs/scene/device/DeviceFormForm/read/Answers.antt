use Rattle.std.proofs.Common.{subst, sym, codes}
use Rattle.serde_json.specs.View.{view}
use Rattle.rdm_line.specs.Parameters.{ParameterState}
use Rattle.rdm_files.specs.Forms.{IsListOf, MayHave}
use Rattle.rdm_files.specs.SceneFiles.{IsParameter, any_length}
use Rattle.rdm_files.proofs.FormLemmas.{passed}
use Rattle.rdm_files.proofs.DeviceForms.{leaves}
use Rattle.rdm_files.proofs.scene.device.DeviceFormForm.read.Goals as goal

pub returns-in_err-preamble : goal.returns-in_err-preamble
returns-in_err-preamble c = passed _ _ _ c.from_residual-in_err-preamble.ensures.1
    (λ other d h. c.in_err-preamble.ensures other d.preamble h.preamble)

pub returns-in_err-params : goal.returns-in_err-params
returns-in_err-params c = passed _ _ _ c.from_residual-in_err-params.ensures.1
    (λ other d h. c.in_err-params.ensures other d.params
    (subst (λ none. MayHave (codes "params") (IsListOf ParameterState IsParameter 0 any_length) none
    (view c.args.value.now) d.params) (sym c.new.ensures) h.params))

pub returns-in_err-from : goal.returns-in_err-from
returns-in_err-from c =
    passed _ _ _ c.from_residual-in_err-from.ensures.1 (λ other d h. c.in_err-from.ensures other d.from h.from)

pub returns-in_err-until : goal.returns-in_err-until
returns-in_err-until c =
    passed _ _ _ c.from_residual-in_err-until.ensures.1 (λ other d h. c.in_err-until.ensures other d.until h.until)

pub returns-then-leaves_first : goal.returns-then-leaves_first
returns-then-leaves_first c other d h =
    leaves (view c.args.value.now) d c.in_ok-from.from c.in_ok-until.until h c.in_ok-from.ensures c.in_ok-until.ensures
    c.if-leaves_first.ensures
