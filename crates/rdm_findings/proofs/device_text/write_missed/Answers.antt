use Rattle.rdm_reports.proofs.WritingLemmas.{three_written}
use Rattle.rdm_findings.proofs.device_text.write_missed.Goals as goal

pub returns : goal.returns
returns c = three_written c.write-2.result c.args.text.now.items c.write.new.text.items c.write_over.new.text.items
    c.write-2.new.text.items _ _ _ c.in_ok-write.ensures c.in_ok-write_over.ensures c.write-2.ensures
