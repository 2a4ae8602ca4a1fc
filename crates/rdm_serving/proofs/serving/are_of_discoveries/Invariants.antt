use Rattle.std.proofs.Common.{◌≡◌, ◌≤◌, take, length}
use Rattle.std.specs.Prelude.{map}
use Rattle.rdm_reports.specs.declared.outcomes.Discovered.{Discovered}
use Rattle.rdm_reports.specs.SessionReport.{is_ask, indices_of}
use Rattle.rdm_serving.proofs.serving.are_of_discoveries.Given as goal

abbrev pub invariant-calls : goal.invariant-calls
invariant-calls l =
    (l.count ≤ length l.outcomes)
    × (map (λ (t : Discovered). t.tag) (take l.count l.outcomes) ≡ indices_of is_ask 0 (take l.call_index l.calls))
