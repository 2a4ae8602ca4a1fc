use Rattle.std.proofs.Common.{◌≡◌, ap, sym, ◌∙◌, arith}
use Rattle.rdm_files.specs.declared.session.client.ClientFile.{ClientFile}
use Rattle.rdm_serving.specs.LoggedCalls.{calls_logged}
use Rattle.rdm_serving.proofs.CalledLemmas.{called_next}
use Rattle.rdm_serving.proofs.serving.called.all_called.Goals as goal

pub clients-preserved : goal.clients-preserved
clients-preserved c =
    let here : calls_logged c.clients.client c.args.entries.now ≡ c.index-clients-client.result.calls.items =
    c.if-not-is_called.ensures ∙ c.deref.ensures.value
    ∙ ap (λ (k : ClientFile). k.calls.items) (sym c.index-clients-client.is) in
    called_next c.args.entries.now c.args.clients.now c.clients.client c.index-clients-client.result
    (omega arith) c.index-clients-client.is c.clients.invariant here
