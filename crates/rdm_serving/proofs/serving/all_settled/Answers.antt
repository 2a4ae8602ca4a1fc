use Rattle.std.proofs.Common.{ap, sym, ◌∙◌, subst, arith}
use Rattle.rdm_reports.specs.SessionReport.{IsSettled}
use Rattle.rdm_files.specs.declared.session.client.ClientFile.{ClientFile}
use Rattle.rdm_serving.proofs.SettledLemmas.{settled_next}
use Rattle.rdm_serving.proofs.serving.all_settled.Goals as goal

pub clients-preserved : goal.clients-preserved
clients-preserved c =
    let here : IsSettled c.index-clients-i.result.calls.items c.index-outcomes-i.result =
    subst (λ calls. IsSettled calls c.index-outcomes-i.result)
    (c.deref.ensures.value ∙ ap (λ (k : ClientFile). k.calls.items) (sym c.index-clients-i.is))
    c.if-not-is_settled.ensures in
    settled_next c.args.clients.now c.args.outcomes.now c.clients.i c.index-clients-i.result c.index-outcomes-i.result
    (omega arith) (omega (arith, c.if-clients-outcomes.false)) c.index-clients-i.is c.index-outcomes-i.is
    c.clients.invariant here
