use Rattle.std.proofs.Common.{◌≡◌, ◌++◌, arith, rules}
use Rattle.rdm_reports.specs.OpeningText.{element, uid_element}
use Rattle.rdm_reports.proofs.NumberedLemmas.{numbered_next}
use Rattle.rdm_reports.proofs.opening_text.write_uids.Goals as goal

pub uids-preserved : goal.uids-preserved
uids-preserved c =
    let grows : c.write_uid_at.new.text.items ≡ c.uids.text.items
    ++ element uid_element c.uids.index c.index-uids-index.result = search rules in
    numbered_next (element uid_element) c.args.uids.now c.uids.index c.index-uids-index.result
    c.args.text.now.items c.uids.text.items c.write_uid_at.new.text.items (omega arith)
    c.index-uids-index.is c.uids.invariant grows
