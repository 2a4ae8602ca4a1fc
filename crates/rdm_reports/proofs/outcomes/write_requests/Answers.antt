use Rattle.std.proofs.Common.{◌≡◌, ◌++◌, arith, rules}
use Rattle.rdm_reports.specs.SessionReport.{request_line}
use Rattle.rdm_reports.proofs.NumberedLemmas.{numbered_next}
use Rattle.rdm_reports.proofs.outcomes.write_requests.Goals as goal

pub requests-preserved : goal.requests-preserved
requests-preserved c =
    let grows : c.write_request.new.text.items ≡ c.requests.text.items
    ++ request_line c.args.client c.requests.number c.index-requests-number.result = search rules in
    numbered_next (request_line c.args.client) c.args.requests.now c.requests.number c.index-requests-number.result
    c.args.text.now.items c.requests.text.items c.write_request.new.text.items (omega arith)
    c.index-requests-number.is c.requests.invariant grows
