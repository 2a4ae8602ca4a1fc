use Rattle.rdm_reports.proofs.WritingLemmas.{three_written}
use Rattle.rdm_findings.proofs.gap_text.write_range.Goals as goal

pub returns : goal.returns
returns c = three_written c.write_around.result c.args.text.now.items c.write.new.text.items c.write_uid.new.text.items
    c.write_around.new.text.items _ _ _ c.in_ok-write.ensures c.in_ok-write_uid.ensures
    (rw c.range_after.ensures at c.write_around.ensures)
