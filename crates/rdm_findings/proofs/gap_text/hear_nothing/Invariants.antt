use Rattle.std.proofs.Common.{◌≡◌, drop}
use Rattle.std.specs.List.{list_all}
use Rattle.rdm_findings.specs.FindingText.{hears_nothing}
use Rattle.rdm_findings.proofs.gap_text.hear_nothing.Given as goal

abbrev pub invariant-loop-exchange : goal.invariant-loop-exchange
invariant-loop-exchange l =
    list_all hears_nothing l.exchanges ≡ list_all hears_nothing (drop l.exchange-index l.exchanges)
