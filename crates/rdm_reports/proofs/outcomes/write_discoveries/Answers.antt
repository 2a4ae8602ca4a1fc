use Rattle.std.proofs.Common.{◌≡◌, ◌++◌, arith, rules}
use Rattle.rdm_reports.specs.SessionReport.{discovery_line}
use Rattle.rdm_reports.proofs.NumberedLemmas.{numbered_next}
use Rattle.rdm_reports.proofs.outcomes.write_discoveries.Goals as goal

pub discoveries-preserved : goal.discoveries-preserved
discoveries-preserved c =
    let grows : c.write_discovery.new.text.items ≡ c.discoveries.text.items
    ++ discovery_line c.args.client c.discoveries.number c.index-discoveries-number.result = search rules in
    numbered_next (discovery_line c.args.client) c.args.discoveries.now c.discoveries.number
    c.index-discoveries-number.result c.args.text.now.items c.discoveries.text.items
    c.write_discovery.new.text.items (omega arith) c.index-discoveries-number.is c.discoveries.invariant grows
