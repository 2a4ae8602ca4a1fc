use Rattle.rdm_reports.proofs.WritingLemmas.{three_written}
use Rattle.rdm_findings.proofs.garbled_text.write_first_off.Goals as goal

pub returns : goal.returns
returns c = three_written c.write_then.result c.args.text.now.items c.write.new.text.items
    c.write_end_off.new.text.items c.write_then.new.text.items _ _ _ c.in_ok-write.ensures
    c.in_ok-write_end_off.ensures c.write_then.ensures
