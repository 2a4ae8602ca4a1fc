use Rattle.std.proofs.Common.{◌≡◌, ◌++◌, take}
use Rattle.rdm_reports.specs.SessionReport.{uids_text}
use Rattle.rdm_reports.proofs.outcomes.write_uids.Given as goal

abbrev pub invariant-uids : goal.invariant-uids
invariant-uids l = l.text.items ≡ l.initial.text.items ++ uids_text (take l.uid-index l.uids)
