use Rattle.std.proofs.Common.{codes, rules}
use Rattle.serde_json.specs.View.{view}
use Rattle.rdm_wire.specs.declared.request.ReqClass.TheVariants as classes
use Rattle.rdm_files.specs.SessionFiles.{IsCall, HasNeither}
use Rattle.rdm_files.specs.body.Elements.{IsRequest, IsAsk}
use Rattle.rdm_files.proofs.SessionForms.{is_get, is_set, is_ask, only_get, only_set, only_ask, reads_same}
use Rattle.rdm_files.proofs.session.call.CallFormForm.read.Goals as goal

pub returns-in-true-false-false : goal.returns-in-true-false-false
returns-in-true-false-false c =
    let neither : HasNeither (codes "set") (codes "discover") (view c.args.value.now) = search rules in
    reads_same c.request.result (IsRequest (codes "get") classes.Get (view c.args.value.now))
    (IsCall (view c.args.value.now))
    (λ call. is_get (view c.args.value.now) call neither) (λ call. only_get (view c.args.value.now) call neither)
    c.request.ensures

pub returns-in-false-true-false : goal.returns-in-false-true-false
returns-in-false-true-false c =
    let neither : HasNeither (codes "get") (codes "discover") (view c.args.value.now) = search rules in
    reads_same c.request-in-false-true-false.result (IsRequest (codes "set") classes.Set (view c.args.value.now))
    (IsCall (view c.args.value.now))
    (λ call. is_set (view c.args.value.now) call neither) (λ call. only_set (view c.args.value.now) call neither)
    c.request-in-false-true-false.ensures

pub returns-in-false-false-true : goal.returns-in-false-false-true
returns-in-false-false-true c =
    let neither : HasNeither (codes "get") (codes "set") (view c.args.value.now) = search rules in
    reads_same c.discovery.result (IsAsk (view c.args.value.now)) (IsCall (view c.args.value.now))
    (λ call. is_ask (view c.args.value.now) call neither) (λ call. only_ask (view c.args.value.now) call neither)
    c.discovery.ensures
