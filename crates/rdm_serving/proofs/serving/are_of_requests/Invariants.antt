use Rattle.std.proofs.Common.{◌≡◌, ◌≤◌, take, length}
use Rattle.std.specs.Prelude.{map}
use Rattle.rdm_client.specs.declared.told.Told.{Told}
use Rattle.rdm_reports.specs.SessionReport.{is_request, indices_of}
use Rattle.rdm_serving.proofs.serving.are_of_requests.Given as goal

abbrev pub invariant-calls : goal.invariant-calls
invariant-calls l =
    (l.count ≤ length l.outcomes)
    × (map (λ (t : Told). t.tag) (take l.count l.outcomes) ≡ indices_of is_request 0 (take l.call_index l.calls))
