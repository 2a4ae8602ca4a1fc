use Rattle.std.proofs.Common.{◌≡◌, ◌++◌, [], arith, rules}
use Rattle.rdm_reports.specs.SessionReport.{client_text}
use Rattle.rdm_reports.proofs.NumberedLemmas.{numbered_next}
use Rattle.rdm_reports.proofs.outcomes.session_text.Goals as goal

pub clients-preserved : goal.clients-preserved
clients-preserved c =
    let grows : c.write_client.new.text.items ≡ c.clients.text.items
    ++ client_text c.clients.client c.index-outcomes-client.result = search rules in
    numbered_next client_text c.args.outcomes.now c.clients.client c.index-outcomes-client.result []
    c.clients.text.items c.write_client.new.text.items (omega arith) c.index-outcomes-client.is c.clients.invariant
    grows
