use Rattle.rdm_reports.proofs.WritingLemmas.{three_written}
use Rattle.rdm_findings.proofs.explaining.write_bytes.Goals as goal

pub returns : goal.returns
returns c = three_written c.write_answered.result c.args.text.now.items c.write_first_stray.new.text.items
    c.write_first_garbled.new.text.items c.write_answered.new.text.items _ _ _ c.in_ok-write_first_stray.ensures
    c.in_ok-write_first_garbled.ensures c.write_answered.ensures
