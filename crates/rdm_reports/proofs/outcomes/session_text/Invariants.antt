use Rattle.std.proofs.Common.{◌≡◌, take}
use Rattle.rdm_reports.specs.SessionReport.{numbered, client_text}
use Rattle.rdm_reports.proofs.outcomes.session_text.Given as goal

abbrev pub invariant-clients : goal.invariant-clients
invariant-clients l = l.text.items ≡ numbered client_text 0 (take l.client l.outcomes)
