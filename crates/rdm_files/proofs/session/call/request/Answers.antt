use Rattle.serde_json.specs.View.{view}
use Rattle.rdm_files.proofs.FormLemmas.{passed}
use Rattle.rdm_files.proofs.SessionForms.{no_sub, no_param}
use Rattle.rdm_files.proofs.session.call.request.Goals as goal

pub returns-in_err-sub_device : goal.returns-in_err-sub_device
returns-in_err-sub_device c =
    passed _ _ _ c.from_residual-in_err-sub_device.ensures.1
    (λ other. no_sub c.args.key.now c.args.class (view c.args.value.now) (c.in_err-sub_device.ensures other))

pub returns-in_err-param : goal.returns-in_err-param
returns-in_err-param c =
    passed _ _ _ c.from_residual-in_err-param.ensures.1
    (λ other. no_param c.args.key.now c.args.class (view c.args.value.now) c.new.result c.new.ensures
    (c.in_err-param.ensures other))
