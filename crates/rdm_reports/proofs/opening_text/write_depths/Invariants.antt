use Rattle.std.proofs.Common.{◌≡◌, ◌++◌, take, decimal}
use Rattle.rdm_reports.specs.SessionReport.{numbered}
use Rattle.rdm_reports.specs.OpeningText.{element}
use Rattle.rdm_reports.proofs.opening_text.write_depths.Given as goal

abbrev pub invariant-depths : goal.invariant-depths
invariant-depths l = l.text.items ≡ l.initial.text.items ++ numbered (element decimal) 0 (take l.index l.places)
