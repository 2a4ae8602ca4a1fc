use Rattle.std.proofs.Common.{◌≡◌, ◌++◌, take}
use Rattle.rdm_reports.specs.SessionReport.{numbered, discovery_line}
use Rattle.rdm_reports.proofs.outcomes.write_discoveries.Given as goal

abbrev pub invariant-discoveries : goal.invariant-discoveries
invariant-discoveries l =
    l.text.items ≡ l.initial.text.items ++ numbered (discovery_line l.client) 0 (take l.number l.discoveries)
