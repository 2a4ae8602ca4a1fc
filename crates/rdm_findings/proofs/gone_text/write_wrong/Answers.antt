use Rattle.rdm_reports.proofs.WritingLemmas.{three_written}
use Rattle.rdm_findings.proofs.gone_text.write_wrong.Goals as goal

pub returns : goal.returns
returns c = three_written c.write_place.result c.args.text.now.items c.write.new.text.items c.write-2.new.text.items
    c.write_place.new.text.items _ _ _ c.in_ok-write.ensures (rw c.guilt_text.ensures at c.in_ok-write-2.ensures)
    c.write_place.ensures
