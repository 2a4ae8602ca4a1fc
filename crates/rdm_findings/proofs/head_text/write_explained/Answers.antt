use Rattle.rdm_reports.proofs.WritingLemmas.{three_written}
use Rattle.rdm_findings.proofs.head_text.write_explained.Goals as goal

pub returns : goal.returns
returns c = three_written c.write_reason.result c.args.text.now.items c.write.new.text.items
    c.write_early.new.text.items c.write_reason.new.text.items _ _ _ c.in_ok-write.ensures
    c.in_ok-write_early.ensures c.write_reason.ensures
