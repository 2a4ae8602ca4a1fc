use Rattle.std.proofs.Common.{◌≡◌, ◌++◌, take}
use Rattle.rdm_reports.specs.SessionReport.{numbered, request_line}
use Rattle.rdm_reports.proofs.outcomes.write_requests.Given as goal

abbrev pub invariant-requests : goal.invariant-requests
invariant-requests l =
    l.text.items ≡ l.initial.text.items ++ numbered (request_line l.client) 0 (take l.number l.requests)
