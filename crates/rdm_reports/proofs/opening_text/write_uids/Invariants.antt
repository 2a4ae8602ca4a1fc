use Rattle.std.proofs.Common.{◌≡◌, ◌++◌, take}
use Rattle.rdm_reports.specs.SessionReport.{numbered}
use Rattle.rdm_reports.specs.OpeningText.{element, uid_element}
use Rattle.rdm_reports.proofs.opening_text.write_uids.Given as goal

abbrev pub invariant-uids : goal.invariant-uids
invariant-uids l = l.text.items ≡ l.initial.text.items ++ numbered (element uid_element) 0 (take l.index l.uids)
